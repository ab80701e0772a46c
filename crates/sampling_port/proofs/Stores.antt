-- The words of a message can be stored one by one, and then it can be published.
use Rattle.std.proofs.Common.{◌≡◌, ◌≢◌, ℕ, zero, suc, ◌+◌, ◌-◌, ◌*◌, ◌/◌, ◌<◌, ◌≤◌, List, [], ◌∷◌, ◌++◌, length, get_or, take, Option, None, Some, Fits, w8, refl, sym, ap, ◌∙◌, arith, subst}
use Rattle.std.specs.List.{All}
use Rattle.std.proofs.lemmas.List.{get_or-take, length-take-le, take_more}
use Rattle.std.proofs.lemmas.List.Elements.{All-from_get_or}
use Rattle.std.proofs.Math.Facts.{Fits-lt-pow}
use Rattle.std.proofs.Math.Seq.{take-length}
use Rattle.std.proofs.lemmas.List.FromFn.{get_or-map-range_with_len, length-map-range_with_len}
use Rattle.slot_core.specs.declared.view.WriterView.{WriterView}
use Rattle.slot_core.specs.Words.{slot_of}
use Rattle.slot_core.specs.Message.{IsMessage, words_for}
use Rattle.slot_core.specs.Octets.{words_of, word_at}
use Rattle.slot_core.specs.Steps.{stores, publishes, word_to_show}
use Rattle.slot_core.specs.Allowed.{MayStore, MayPublish}
use Rattle.sampling_port.specs.declared.rule.WriterLog.{WriterLog}
use Rattle.sampling_port.specs.Plays.{writes}
use Rattle.sampling_port.specs.Writes.{Publishes}

-- after so many scans; what was found is among those taken
pub record IsScanning (v w : WriterLog) (taken : List ℕ) (done : ℕ) : Type 0 where
  pub scanned : length w.view.scanned ≡ done
  pub stored : w.view.stored ≡ []
  pub published : w.view.published ≡ v.view.published
  pub last : w.view.last ≡ v.view.last
  pub steps : w.steps ≡ v.steps + done
  pub noted : (k slot : ℕ) → get_or w.view.scanned k None ≡ Some slot → (k < done) × (get_or taken k 0 ≡ slot)

-- after so many words
pub record IsStoring (v w : WriterLog) (slot : ℕ) (words : List ℕ) (done : ℕ) : Type 0 where
  pub scanned : w.view.scanned ≡ v.view.scanned
  pub stored : w.view.stored ≡ take done words
  pub published : w.view.published ≡ v.view.published
  pub last : w.view.last ≡ v.view.last
  pub chosen : 0 < done → w.view.chosen ≡ slot
  pub steps : w.steps ≡ v.steps + done

pub word_is : (octets : List ℕ) (time index : ℕ) → 2 ≤ index → index < 2 + (length octets + 7) / 8 → get_or (words_of octets time) index 0 ≡ word_at octets (index - 2)
word_is octets time zero more h = absurd (omega (arith, more))
word_is octets time (suc zero) more h = absurd (omega (arith, more))
word_is octets time (suc (suc place)) more h = get_or-map-range_with_len (word_at octets) 0 ((length octets + 7) / 8) place (suc (suc place) - 2) 0 (omega (arith, h)) (omega arith)

pub words_count : (octets : List ℕ) (time : ℕ) → length (words_of octets time) ≡ 2 + (length octets + 7) / 8
words_count octets time = let size = length-map-range_with_len (word_at octets) 0 ((length octets + 7) / 8) in omega (arith, size)

pub all_octets : (octets : List ℕ) → ((i : ℕ) → Fits w8 (get_or octets i 0)) → All (λ octet. octet < 256) octets
all_octets octets fit = All-from_get_or (λ octet. octet < 256) octets 0 (λ i h. Fits-lt-pow (fit i))

-- the word at this index is the next, and those before it are stored
pub may_store : (n slots : ℕ) (w : WriterView) (slot index word : ℕ) (words : List ℕ) → IsMessage words → slot < slots → length w.scanned ≡ n → w.stored ≡ take index words → index < length words
    → word ≡ get_or words index 0 → (0 < index → w.chosen ≡ slot) → (w.last ≢ 0 → slot ≢ slot_of w.last) → ((reader : ℕ) → get_or w.scanned reader None ≢ Some slot)
    → MayStore n slots w slot index word
may_store n slots w slot index word words message exists all stored inside is chosen apart free =
    let short = message.start.short in let whole = message.whole in
    let size : length w.stored ≡ index = ap length stored ∙ length-take-le index words (omega (arith, inside)) in
    record {
      exists = exists;
      within = omega (arith, short, whole, inside);
      all = all;
      next = sym size;
      first = λ e. record { short = subst (λ (z : ℕ). z ≤ 1471) (sym (is ∙ ap (λ (i : ℕ). get_or words i 0) e)) short; apart = apart; free = free };
      later = λ more. let head : get_or w.stored 0 0 ≡ get_or words 0 0 = ap (λ (l : List ℕ). get_or l 0 0) stored ∙ get_or-take index words 0 0 more in record {
        same = sym (chosen more);
        more = subst (λ (z : ℕ). length w.stored < words_for z) (sym head) (omega (arith, size, whole, inside));
        padded = rw (head, size, is) (message.start.padded index inside);
      };
    }

pub may_publish : (w : WriterView) (words : List ℕ) → IsMessage words → w.stored ≡ words → length w.published < 1152921504606846975 → MayPublish w
may_publish w words message stored few = record {
  begun = rw stored message.start.one;
  whole = rw stored message.whole;
  few = few;
}

-- the slots that were noted are not chosen
pub is_free : (scanned : List (Option ℕ)) (taken : List ℕ) (done slot : ℕ) → ((k s : ℕ) → get_or scanned k None ≡ Some s → (k < done) × (get_or taken k 0 ≡ s))
    → ((k : ℕ) → k < length taken → get_or taken k 0 ≢ slot) → done ≤ length taken → (reader : ℕ) → get_or scanned reader None ≢ Some slot
is_free scanned taken done slot noted free fits reader e = let t = noted reader slot e in free reader (omega (arith, t.0, fits)) t.1

pub stores_more : (v w w' : WriterLog) (slot word done : ℕ) (words : List ℕ) → IsStoring v w slot words done → w' ≡ writes w (stores w.view slot word) → done < length words → word ≡ get_or words done 0
    → IsStoring v w' slot words (done + 1)
stores_more v w w' slot word done words s is inside one = subst (λ (z : WriterLog). IsStoring v z slot words (done + 1)) (sym is) (record {
  scanned = s.scanned;
  stored = ap (λ (l : List ℕ). l ++ word ∷ []) s.stored ∙ ap (λ (z : ℕ). take done words ++ z ∷ []) one ∙ sym (take_more words done 0 inside);
  published = s.published;
  last = s.last;
  chosen = λ _. refl;
  steps = omega (arith, s.steps);
})

-- when all words are stored
module _ (n : ℕ) (v0 v1 v2 : WriterLog) (taken : List ℕ) (slot index reader : ℕ) (octets : List ℕ) (time : ℕ) (scan : IsScanning v0 v1 taken reader) (store : IsStoring v1 v2 slot (words_of octets time) index)
    (whole : index ≡ 2 + (length octets + 7) / 8) where
  pub all_stored : v2.view.stored ≡ words_of octets time
  all_stored = store.stored ∙ ap (λ (i : ℕ). take i (words_of octets time)) (whole ∙ sym (words_count octets time)) ∙ take-length (words_of octets time)

  pub to_show : (count : ℕ) → count ≡ length v0.view.published → 16 * (count + 1) + slot ≡ word_to_show v2.view
  to_show count is =
      let same : length v2.view.published ≡ length v0.view.published = ap length (store.published ∙ scan.published) in
      let chosen : v2.view.chosen ≡ slot = store.chosen (omega (arith, whole)) in
      omega (arith, same, chosen, is)

  pub publishes_all : (v3 : WriterLog) → reader ≡ n → v3 ≡ writes v2 (publishes v2.view) → Publishes n v0 v3 octets time
  publishes_all v3 all is = subst (λ (z : WriterLog). Publishes n v0 z octets time) (sym is) (record {
    published = ap (λ (l : List (List ℕ)). l ++ v2.view.stored ∷ []) (store.published ∙ scan.published) ∙ ap (λ (l : List ℕ). v0.view.published ++ l ∷ []) all_stored;
    rest = record { scanned = refl; stored = refl };
    steps = omega (arith, store.steps, scan.steps, whole, all);
  })
