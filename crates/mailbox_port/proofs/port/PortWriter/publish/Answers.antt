use Rattle.std.proofs.Common.{rules, arith, ◌≡◌, ◌+◌, ◌<◌, ◌∙◌, ◌∷◌, suc, length, map, get_or, set, sym, ap, ℕ, List}
use Rattle.es_base.specs.declared.event.Message.{Message}
use Rattle.triple_buffer.specs.Rule.{message}
use Rattle.triple_buffer.specs.Ends.{BufferWriter, with_published}
use Rattle.mailbox_port.specs.Port.{PortEnd, port_end, port_with, published_of}
use Rattle.mailbox_port.proofs.Lists.{alike_after, all_first, end_after, first_published, get_next, longest_at, published_at, set_next}
use Rattle.mailbox_port.proofs.port.PortWriter.publish.Goals as goal

pub publish-requires-clause-short : goal.publish-requires-clause-short
publish-requires-clause-short c =
    let writers : List BufferWriter = c.self.inside.first ∷ c.self.inside.others.items in
    let long : c.self.inside.first.longest ≡ c.self.inside.longest = longest_at writers _ _ 0 c.self.inside.first c.self.invariant c.self.invariant.some in
    let same : c.self.inside.longest ≡ c.args.self.now.longest = ap (λ (p : PortEnd). p.longest) c.self.view_is in
    let short = c.requires.short in omega (arith, long, same, short)

pub publish-requires-in-loop-place-clause-short : goal.publish-requires-in-loop-place-clause-short
publish-requires-in-loop-place-clause-short c =
    let d = c.index_mut.result.now in
    let others = c.self.inside.others.items in
    let at : get_or c.loop-place.self-inside.others.items c.loop-place.place d ≡ d = search rules in
    let low : c.loop-place.place < length others = search rules in
    let is : get_or others c.loop-place.place d ≡ d = sym (get_next c.loop-place.place others (message c.args.time c.args.octets.now) d) ∙ ap (λ (l : List BufferWriter). get_or l c.loop-place.place d) (sym c.loop-place.invariant.others) ∙ at in
    let writers : List BufferWriter = c.self.inside.first ∷ others in
    let later : suc c.loop-place.place < length writers = omega (arith, low) in
    let long : d.longest ≡ c.self.inside.longest = ap (λ (w : BufferWriter). w.longest) (sym is) ∙ longest_at writers _ _ (suc c.loop-place.place) d c.self.invariant later in
    let same : c.self.inside.longest ≡ c.args.self.now.longest = ap (λ (p : PortEnd). p.longest) c.self.view_is in
    let short = c.requires.short in omega (arith, long, same, short)

pub publish-requires-in-loop-place-clause-few : goal.publish-requires-in-loop-place-clause-few
publish-requires-in-loop-place-clause-few c =
    let d = c.index_mut.result.now in
    let others = c.self.inside.others.items in
    let at : get_or c.loop-place.self-inside.others.items c.loop-place.place d ≡ d = search rules in
    let low : c.loop-place.place < length others = search rules in
    let is : get_or others c.loop-place.place d ≡ d = sym (get_next c.loop-place.place others (message c.args.time c.args.octets.now) d) ∙ ap (λ (l : List BufferWriter). get_or l c.loop-place.place d) (sym c.loop-place.invariant.others) ∙ at in
    let writers : List BufferWriter = c.self.inside.first ∷ others in
    let later : suc c.loop-place.place < length writers = omega (arith, low) in
    let all : length d.published ≡ length (published_of writers) = ap (λ (w : BufferWriter). length w.published) (sym is) ∙ ap (λ (l : List Message). length l) (published_at writers _ _ (suc c.loop-place.place) d c.self.invariant later) in
    let same : length (published_of writers) ≡ length c.args.self.now.published = ap (λ (p : PortEnd). length p.published) c.self.view_is in
    let few = c.requires.few in omega (arith, all, same, few)

pub loop-place-preserved : goal.loop-place-preserved
loop-place-preserved c =
    let m : Message = message c.args.time c.args.octets.now in
    let d = c.index_mut.result.now in
    let others = c.self.inside.others.items in
    let at : get_or c.loop-place.self-inside.others.items c.loop-place.place d ≡ d = search rules in
    let low : c.loop-place.place < length others = search rules in
    let is : get_or others c.loop-place.place d ≡ d = sym (get_next c.loop-place.place others (message c.args.time c.args.octets.now) d) ∙ ap (λ (l : List BufferWriter). get_or l c.loop-place.place d) (sym c.loop-place.invariant.others) ∙ at in
    let new : c.publish-in-loop-place.new.self ≡ with_published (get_or others c.loop-place.place d) m = c.publish-in-loop-place.ensures.published ∙ ap (λ (w : BufferWriter). with_published w m) (sym is) in
    let next : c.loop-place.place + 1 ≡ suc c.loop-place.place = omega arith in
    record {
      first = c.loop-place.invariant.first;
      others = ap (λ (l : List BufferWriter). set l c.loop-place.place c.publish-in-loop-place.new.self) c.loop-place.invariant.others
          ∙ ap (set (first_published c.loop-place.place others m) c.loop-place.place) new
          ∙ set_next c.loop-place.place others m d low ∙ ap (λ (n : ℕ). first_published n others m) (sym next);
      longest = c.loop-place.invariant.longest;
      count = c.loop-place.invariant.count;
    }

pub invariant_of-self : goal.invariant_of-self
invariant_of-self c =
    let m : Message = message c.args.time c.args.octets.now in
    let first = c.self.inside.first in
    let others = c.self.inside.others.items in
    let end : c.loop-place.place ≡ length others = search rules in
    let one : c.loop-place.self-inside.first ≡ with_published first m = c.loop-place.invariant.first ∙ c.publish.ensures.published in
    let rest : c.loop-place.self-inside.others.items ≡ map (λ (w : BufferWriter). with_published w m) others =
    c.loop-place.invariant.others ∙ ap (λ (n : ℕ). first_published n others m) end ∙ all_first others m in
    rw (one, rest, c.loop-place.invariant.longest, c.loop-place.invariant.count) (alike_after (first ∷ others) _ _ m c.self.invariant)

pub returns-clause-published : goal.returns-clause-published
returns-clause-published c =
    let m : Message = message c.args.time c.args.octets.now in
    let first = c.self.inside.first in
    let others = c.self.inside.others.items in
    let end : c.loop-place.place ≡ length others = search rules in
    let one : c.loop-place.self-inside.first ≡ with_published first m = c.loop-place.invariant.first ∙ c.publish.ensures.published in
    let rest : c.loop-place.self-inside.others.items ≡ map (λ (w : BufferWriter). with_published w m) others =
    c.loop-place.invariant.others ∙ ap (λ (n : ℕ). first_published n others m) end ∙ all_first others m in
    let all : c.loop-place.self-inside.first ∷ c.loop-place.self-inside.others.items ≡ map (λ (w : BufferWriter). with_published w m) (first ∷ others) =
    ap (λ (w : BufferWriter). w ∷ c.loop-place.self-inside.others.items) one ∙ ap (λ (l : List BufferWriter). with_published first m ∷ l) rest in
    ap (λ (l : List BufferWriter). port_end l c.loop-place.self-inside.longest) all
    ∙ ap (port_end (map (λ (w : BufferWriter). with_published w m) (first ∷ others))) c.loop-place.invariant.longest
    ∙ end_after (first ∷ others) c.self.inside.longest m c.self.invariant.some
    ∙ ap (λ (p : PortEnd). port_with p m) c.self.view_is
