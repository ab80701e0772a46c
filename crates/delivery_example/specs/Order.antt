-- Which of two frames of a link it took first, by the replies.
use Rattle.std.specs.Prelude.{◌<◌}
use Rattle.network_calls.specs.declared.reply.Reply.{Reply}
use Rattle.network_calls.specs.declared.reply.Reply.TheVariants.{Filtered, Link}
use Rattle.receiver.specs.declared.receiver.Reply.{Reply as ReplyAt}
use Rattle.receiver.specs.declared.receiver.Reply.TheVariants as replies

-- a reply without the index of its link
abbrev pub without_index : ReplyAt → Reply
without_index (replies.Filtered cause) = Filtered cause
without_index (replies.Link at vl place verdict) = Link vl place verdict

-- the frame with this reply came to a link before that with the other
abbrev pub WasTakenBefore : Reply → Reply → Type 0
WasTakenBefore (Link vl place verdict) (Link other later after) = place < later
WasTakenBefore (Filtered cause) after = ⊥
WasTakenBefore (Link vl place verdict) (Filtered cause) = ⊥
