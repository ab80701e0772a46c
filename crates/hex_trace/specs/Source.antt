-- What a source gave, and what reading some of it returns.
use Rattle.std.specs.Prelude.{◌≡◌, ℕ, Bool, true, false, List, [], ◌++◌, IfSome, Option, Result, Ok, Err}
use Rattle.std.specs.Io.KnownBytes.{Consumes, IsAtEnd}
use Rattle.hex_trace.specs.declared.fault.TraceFault.{TraceFault}
use Rattle.hex_trace.specs.declared.fault.TraceFault.TheVariants.{Line, Read, Memory}

-- the bytes that a source had, if that is known, and whether a read of it failed
pub record Given : Type 0 where
  pub bytes : Option (List ℕ)
  pub failed : Bool

-- a source that had these bytes, if they are known, and has failed or not
abbrev pub given_source : Option (List ℕ) → Bool → Given
given_source bytes failed = record { bytes = bytes; failed = failed }

-- the text is all that the source had, if that is known
abbrev pub IsWholeText : Given → List ℕ → Type 0
IsWholeText given_source text = IfSome given_source.bytes (λ bytes. text ≡ bytes)

-- some bytes of a source were read, and follow the front of a text, which is `text count` then; none
-- only at its end; or a read failed, exactly if one did; or memory ran out
abbrev pub ReadsMore : Option (List ℕ) → Option (List ℕ) → Bool → List ℕ → (ℕ → List ℕ) → Result ℕ TraceFault → Type 0
ReadsMore old new failed front text (Ok count) =
    (failed ≡ false) × ((bytes : List ℕ) × Consumes old new bytes × (text count ≡ front ++ bytes) × (count ≡ 0 → (bytes ≡ []) × IsAtEnd new))
ReadsMore old new failed front text (Err (Line line cause)) = ⊥
ReadsMore old new failed front text (Err Read) = failed ≡ true
ReadsMore old new failed front text (Err Memory) = failed ≡ false
