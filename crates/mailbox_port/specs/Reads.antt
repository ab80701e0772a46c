-- What a contract sees of a partition's reader, and what a read tells (ARINC 653, READ_SAMPLING_MESSAGE).
use Rattle.std.specs.Prelude.{◌≡◌, ℕ, [], List, drop, length, min, take}
use Rattle.es_base.specs.declared.event.Message.{Message as Published}
use Rattle.es_base.specs.declared.validity.Freshness.{Freshness}
use Rattle.triple_buffer.specs.Ends.{IsReadOf}
use Rattle.triple_buffer.specs.Rule.{HasLast, message}
use Rattle.mailbox_port.specs.Port.{told_mailbox}
use Rattle.mailbox_port.specs.declared.port.Mailbox.{Mailbox}
use Rattle.mailbox_port.specs.declared.reading.Reading.{Reading}
use Rattle.mailbox_port.specs.declared.reading.Reading.TheVariants.{Message, Empty}

-- a reader: its mailbox, and the refresh period of its port in microseconds
pub record PortReader : Type 0 where
  pub mailbox : Mailbox
  pub refresh : ℕ

-- the same reader, which knows that these were published
-- rule: PORT-18, EMB-11
abbrev pub told : PortReader → List Published → PortReader
told v published = record { mailbox = told_mailbox v.mailbox published; refresh = v.refresh }

-- the reader of the same mailbox looked at it, once
-- rule: EMB-9
pub record IsLookOf (v w : PortReader) : Type 0 where
  pub reader : IsReadOf v.mailbox.reader w.mailbox.reader
  pub place : w.mailbox.place ≡ v.mailbox.place
  pub refresh : w.refresh ≡ v.refresh

-- ---- what a read tells, by cases

abbrev pub IfMessage : Reading → (ℕ → ℕ → ℕ → Freshness → Type 0) → Type 0
IfMessage (Message number time len validity) then = then number time len validity
IfMessage Empty then = Unit {0}

abbrev pub IfEmpty : Reading → Type 0 → Type 0
IfEmpty (Message number time len validity) then = Unit {0}
IfEmpty Empty then = then

-- as many of these octets as fit begin `out`, and the others of it are as before
pub record IsCopied (octets before out : List ℕ) : Type 0 where
  pub size : length out ≡ length before
  pub fits : take (min (length octets) (length before)) out ≡ take (length before) octets
  pub rest : drop (min (length octets) (length before)) out ≡ drop (min (length octets) (length before)) before

-- the last of these messages has this number, time and length, and its octets that fit begin `out`
-- rule: EMB-8
pub record IsReadAs (seen : List Published) (before out : List ℕ) (number time len : ℕ) : Type 0 where
  pub number_is : number ≡ length seen
  pub octets : List ℕ
  pub last : HasLast seen (message time octets)
  pub len_is : len ≡ length octets
  pub copied : IsCopied octets before out

-- what a read by this reader into `out` says, all in all
-- rule: EMB-8
pub record IsRead (v w : PortReader) (before out : List ℕ) (answer : Reading) : Type 0 where
  pub looked : IsLookOf v w
  pub message : IfMessage answer (λ number time len _. IsReadAs w.mailbox.reader.seen before out number time len)
  pub empty : IfEmpty answer ((w.mailbox.reader.seen ≡ []) × (out ≡ before))

-- what a read tells of a port that has published these
-- rule: EMB-8
abbrev pub TellsNewest : List Published → List ℕ → List ℕ → Reading → Type 0
TellsNewest published before out (Message number time len validity) = IsReadAs published before out number time len
TellsNewest published before out Empty = (published ≡ []) × (out ≡ before)
