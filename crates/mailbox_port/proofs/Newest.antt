-- What a read tells of all that was published.
use Rattle.std.proofs.Common.{◌≡◌, ℕ, List, sym, ◌∙◌, subst}
use Rattle.es_base.specs.declared.event.Message.{Message as Published}
use Rattle.mailbox_port.specs.declared.reading.Reading.{Reading}
use Rattle.mailbox_port.specs.declared.reading.Reading.TheVariants.{Message, Empty}
use Rattle.mailbox_port.specs.Reads.{IsRead, IsReadAs, PortReader, TellsNewest}

pub tells_newest : (published : List Published) (reader later : PortReader) (before out : List ℕ) (answer : Reading) → later.mailbox.reader.seen ≡ published → IsRead reader later before out answer → TellsNewest published before out answer
tells_newest published reader later before out (Message number time len validity) same read = subst (λ (l : List Published). IsReadAs l before out number time len) same read.message
tells_newest published reader later before out Empty same read = (sym same ∙ read.empty.0, read.empty.1)
