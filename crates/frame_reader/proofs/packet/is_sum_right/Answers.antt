use Rattle.std.proofs.Common.{◌≡◌, ◌<◌, ◌≤◌, ◌*◌, ⊎_elim, arith, rules}
use Rattle.std.proofs.lemmas.Bool.{cases_lt}
use Rattle.es_base.specs.Octets.{u32_at}
use Rattle.es_base.specs.Packet.{ones_sum}
use Rattle.frame_reader.proofs.Sums.{first_word, is_multiple, next_four, no_words}
use Rattle.frame_reader.proofs.packet.is_sum_right.Goals as goal

pub loop-i-init : goal.loop-i-init
loop-i-init c = record { folded = no_words c.args.header.now; fits = omega arith; some = λ some. some }

pub loop-i-preserved : goal.loop-i-preserved
loop-i-preserved c =
    let header = c.args.header.now in
    let i = c.loop-i.i in
    let word : c.from-sum.result ≡ u32_at (4 * i) header = search rules in
    let fits : c.from-sum.result ≤ 4294967295 = search rules in
    record {
      folded = rw word (next_four header i c.loop-i.sum (search rules) c.loop-i.invariant.folded);
      fits = omega (arith, fits, c.loop-i.invariant.fits);
      some = λ some. ⊎_elim
          (λ (none : i < 1).
          let at : 4 * i ≡ 0 = omega arith in
          let first : 1 ≤ c.from-sum.result = rw (word, at) (first_word header c.requires.some) in
          omega (arith, first))
          (λ (any : 1 ≤ i). omega (arith, c.loop-i.invariant.some any))
          (cases_lt i 1);
    }

pub returns : goal.returns
returns c =
    let all : 2 * c.loop-i.i ≡ 10 = omega arith in
    is_multiple c.loop-i.sum (ones_sum 10 c.args.header.now) (rw all at c.loop-i.invariant.folded) (c.loop-i.invariant.some (omega arith))
