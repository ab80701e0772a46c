use Rattle.std.proofs.Common.{◌∙◌, ap, sym}
use Rattle.ip_reassembly.specs.Answers.{preview_of}
use Rattle.ip_reassembly.proofs.Stands.{stand_is}
use Rattle.ip_reassembly.proofs.Fates.{whole_fate, bad_fate, begins_fate, joins_fate}
use Rattle.ip_reassembly.proofs.reassembly.Reassembly.preview.Goals as goal

pub returns-then-is_whole : goal.returns-then-is_whole
returns-then-is_whole c =
    λ limit groups is. rw (c.head_of.ensures) (sym (ap preview_of (whole_fate limit groups _ _ (sym c.is_whole.ensures ∙ c.if-is_whole.true))))

pub returns-then-is_bad : goal.returns-then-is_bad
returns-then-is_bad c =
    λ limit groups is. sym (ap preview_of (bad_fate limit groups _ _ (sym c.is_whole.ensures ∙ c.if-is_whole.false) (sym c.is_bad.ensures ∙ c.if-is_bad.true)))

pub returns-in-None : goal.returns-in-None
returns-in-None c =
    λ limit groups is.
    let found = rw (is.0, c.key_of.ensures) at (c.in-None.ensures.group groups is.1) in
    sym (ap preview_of (begins_fate limit groups _ _ _ (sym c.is_whole.ensures ∙ c.if-is_whole.false) (sym c.is_bad.ensures ∙ c.if-is_bad.false) found))

pub returns-in-Some : goal.returns-in-Some
returns-in-Some c =
    λ limit groups is.
    let (group, joined, there) = c.in-Some.ensures.group groups is.1 in
    let found = rw (is.0, c.key_of.ensures) at joined in
    let partial = stand_is _ groups _ _ group is.1 c.partial_at.ensures there in
    c.preview_with.ensures group.pieces c.args.now partial.holds
    ∙ sym (ap preview_of (joins_fate limit groups _ _ _ group (sym c.is_whole.ensures ∙ c.if-is_whole.false) (sym c.is_bad.ensures ∙ c.if-is_bad.false) found))
