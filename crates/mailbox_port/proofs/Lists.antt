-- Writers that publish one after the other.
use Rattle.std.proofs.Common.{◌≡◌, ℕ, zero, suc, ◌+◌, ◌<◌, List, [], ◌∷◌, ◌++◌, length, map, get_or, set, sym, refl, ap, ◌∙◌, subst, arith, length-append, Some}
use Rattle.std.specs.List.{All, slice_get}
use Rattle.std.proofs.lemmas.List.{map-append}
use Rattle.std.proofs.lemmas.List.Elements.{All-cons, All-nil}
use Rattle.atomic_table.specs.Seated.{TableId}
use Rattle.es_base.specs.declared.event.Message.{Message}
use Rattle.triple_buffer.specs.Ends.{BufferWriter, new_reader, with_published}
use Rattle.mailbox_port.specs.Port.{AreAlike, IsMailboxOf, buffers_of, mailboxes_from, new_mailboxes, new_port, port_end, port_with, published_of, steps_at_each, writer_at}
use Rattle.mailbox_port.specs.declared.port.Mailbox.{Mailbox}

-- the first so many of these published a message more
abbrev pub first_published : ℕ → List BufferWriter → Message → List BufferWriter
first_published zero ws m = ws
first_published (suc n) [] m = []
first_published (suc n) (w ∷ ws) m = with_published w m ∷ first_published n ws m

pub get_next : (n : ℕ) (ws : List BufferWriter) (m : Message) (d : BufferWriter) → get_or (first_published n ws m) n d ≡ get_or ws n d
get_next zero ws m d = refl
get_next (suc n) [] m d = refl
get_next (suc n) (w ∷ ws) m d = get_next n ws m d

pub set_next : (n : ℕ) (ws : List BufferWriter) (m : Message) (d : BufferWriter) → n < length ws → set (first_published n ws m) n (with_published (get_or ws n d) m) ≡ first_published (suc n) ws m
set_next n [] m d low = absurd (omega (arith, low))
set_next zero (w ∷ ws) m d low = refl
set_next (suc n) (w ∷ ws) m d low = ap (λ (l : List BufferWriter). with_published w m ∷ l) (set_next n ws m d (omega (arith, low)))

pub all_first : (ws : List BufferWriter) (m : Message) → first_published (length ws) ws m ≡ map (λ (w : BufferWriter). with_published w m) ws
all_first [] m = refl
all_first (w ∷ ws) m = ap (λ (l : List BufferWriter). with_published w m ∷ l) (all_first ws m)

pub same_buffers : (ws : List BufferWriter) (m : Message) → buffers_of (map (λ (w : BufferWriter). with_published w m) ws) ≡ buffers_of ws
same_buffers [] m = refl
same_buffers (w ∷ ws) m = ap (λ (l : List TableId). w.buffer ∷ l) (same_buffers ws m)

pub one_more : (ws : List BufferWriter) (m : Message) → 0 < length ws → published_of (map (λ (w : BufferWriter). with_published w m) ws) ≡ published_of ws ++ m ∷ []
one_more [] m some = absurd (omega (arith, some))
one_more (w ∷ ws) m some = refl

one_step_more : (ws : List BufferWriter) (m : Message) → 0 < length ws → steps_at_each (map (λ (w : BufferWriter). with_published w m) ws) ≡ steps_at_each ws + 1
one_step_more [] m some = absurd (omega (arith, some))
one_step_more (w ∷ ws) m some = refl

all_alike : (longest : ℕ) (all : List Message) (bs : List TableId) (m : Message) → map (λ (w : BufferWriter). with_published w m) (map (writer_at longest all) bs) ≡ map (writer_at longest (all ++ m ∷ [])) bs
all_alike longest all [] m = refl
all_alike longest all (b ∷ bs) m =
    let count : length all + 1 ≡ length (all ++ m ∷ []) = sym (length-append all (m ∷ [])) in
    ap (λ (steps : ℕ). record { buffer = b; longest = longest; published = all ++ m ∷ []; steps = steps } ∷ map (λ (w : BufferWriter). with_published w m) (map (writer_at longest all) bs)) count
    ∙ ap (λ (l : List BufferWriter). writer_at longest (all ++ m ∷ []) b ∷ l) (all_alike longest all bs m)

count_all : (ws : List BufferWriter) (m : Message) → length (map (λ (w : BufferWriter). with_published w m) ws) ≡ length ws
count_all [] m = refl
count_all (w ∷ ws) m = ap suc (count_all ws m)

pub alike_after : (ws : List BufferWriter) (longest count : ℕ) (m : Message) → AreAlike ws longest count → AreAlike (map (λ (w : BufferWriter). with_published w m) ws) longest (count + 1)
alike_after ws longest count m a =
    let all = published_of ws in
    let now : published_of (map (λ (w : BufferWriter). with_published w m) ws) ≡ all ++ m ∷ [] = one_more ws m a.some in record {
      some = subst (λ (n : ℕ). 0 < n) (sym (count_all ws m)) a.some;
      same = ap (map (λ (w : BufferWriter). with_published w m)) a.same ∙ all_alike longest all (buffers_of ws) m
          ∙ ap (λ (l : List Message). map (writer_at longest l) (buffers_of ws)) (sym now) ∙ ap (map (writer_at longest (published_of (map (λ (w : BufferWriter). with_published w m) ws)))) (sym (same_buffers ws m));
      count_is = ap (λ (n : ℕ). n + 1) a.count_is ∙ sym (length-append all (m ∷ [])) ∙ sym (ap (λ (l : List Message). length l) now);
    }

pub end_after : (ws : List BufferWriter) (longest : ℕ) (m : Message) → 0 < length ws → port_end (map (λ (w : BufferWriter). with_published w m) ws) longest ≡ port_with (port_end ws longest) m
end_after ws longest m some = λ i. record { buffers = same_buffers ws m i; longest = longest; published = one_more ws m some i; steps = one_step_more ws m some i }

-- each of them published the same, and takes as long messages
at_alike : (longest : ℕ) (all : List Message) (bs : List TableId) (n : ℕ) (d : BufferWriter) → n < length (map (writer_at longest all) bs) → (get_or (map (writer_at longest all) bs) n d).longest ≡ longest
at_alike longest all [] n d low = absurd (omega (arith, low))
at_alike longest all (b ∷ bs) zero d low = refl
at_alike longest all (b ∷ bs) (suc n) d low = at_alike longest all bs n d (omega (arith, low))

at_alike_all : (longest : ℕ) (all : List Message) (bs : List TableId) (n : ℕ) (d : BufferWriter) → n < length (map (writer_at longest all) bs) → (get_or (map (writer_at longest all) bs) n d).published ≡ all
at_alike_all longest all [] n d low = absurd (omega (arith, low))
at_alike_all longest all (b ∷ bs) zero d low = refl
at_alike_all longest all (b ∷ bs) (suc n) d low = at_alike_all longest all bs n d (omega (arith, low))

pub longest_at : (ws : List BufferWriter) (longest count n : ℕ) (d : BufferWriter) → AreAlike ws longest count → n < length ws → (get_or ws n d).longest ≡ longest
longest_at ws longest count n d a low = ap (λ (l : List BufferWriter). (get_or l n d).longest) a.same ∙ at_alike longest (published_of ws) (buffers_of ws) n d (subst (λ (l : List BufferWriter). n < length l) a.same low)

pub published_at : (ws : List BufferWriter) (longest count n : ℕ) (d : BufferWriter) → AreAlike ws longest count → n < length ws → (get_or ws n d).published ≡ published_of ws
published_at ws longest count n d a low = ap (λ (l : List BufferWriter). (get_or l n d).published) a.same ∙ at_alike_all longest (published_of ws) (buffers_of ws) n d (subst (λ (l : List BufferWriter). n < length l) a.same low)

-- ---- mailboxes

-- one writer more, which published nothing
pub one_writer_more : (longest : ℕ) (ws : List BufferWriter) (w : BufferWriter) → ws ≡ map (writer_at longest []) (buffers_of ws) → w ≡ writer_at longest [] w.buffer
    → ws ++ w ∷ [] ≡ map (writer_at longest []) (buffers_of ws ++ w.buffer ∷ [])
one_writer_more longest ws w same one =
    ap (λ (l : List BufferWriter). l ++ w ∷ []) same ∙ ap (λ (x : BufferWriter). map (writer_at longest []) (buffers_of ws) ++ x ∷ []) one ∙ sym (map-append (writer_at longest []) (buffers_of ws) (w.buffer ∷ []))

-- one mailbox more stands at the end
pub mailboxes_push : (longest place : ℕ) (bs : List TableId) (b : TableId) → mailboxes_from longest place (bs ++ b ∷ []) ≡ mailboxes_from longest place bs ++ record { reader = new_reader b longest; place = place + length bs } ∷ []
mailboxes_push longest place [] b =
    let at : place ≡ place + 0 = omega arith in
    ap (λ (p : ℕ). record { reader = new_reader b longest; place = p } ∷ []) at
mailboxes_push longest place (first ∷ bs) b =
    let at : place + 1 + length bs ≡ place + suc (length bs) = omega arith in
    ap (λ (l : List Mailbox). record { reader = new_reader first longest; place = place } ∷ l)
    (mailboxes_push longest (place + 1) bs b ∙ ap (λ (p : ℕ). mailboxes_from longest (place + 1) bs ++ record { reader = new_reader b longest; place = p } ∷ []) at)

at_place : (all : List TableId) (longest place : ℕ) (bs : List TableId) → ((i : ℕ) (b : TableId) → slice_get bs i ≡ Some b → slice_get all (place + i) ≡ Some b)
    → All (IsMailboxOf (new_port all longest)) (mailboxes_from longest place bs)
at_place all longest place [] each = All-nil (IsMailboxOf (new_port all longest))
at_place all longest place (b ∷ bs) each =
    let here : place + 0 ≡ place = omega arith in
    All-cons (IsMailboxOf (new_port all longest)) (record { reader = new_reader b longest; place = place }) (mailboxes_from longest (place + 1) bs) (rw here at (each 0 b refl))
    (at_place all longest (place + 1) bs (λ i x there. let next : place + 1 + i ≡ place + suc i = omega arith in rw next (each (suc i) x there)))

-- each of a new port's mailboxes is one of that port
pub mailboxes_are : (buffers : List TableId) (longest : ℕ) → All (IsMailboxOf (new_port buffers longest)) (new_mailboxes buffers longest)
mailboxes_are buffers longest = at_place buffers longest 0 buffers (λ i b there. let same : 0 + i ≡ i = omega arith in rw same there)
