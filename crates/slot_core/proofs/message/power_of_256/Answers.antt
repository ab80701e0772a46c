use Rattle.std.proofs.Common.{ℕ, zero, suc, ◌<◌, ◌^◌, arith, lit<}
use Rattle.slot_core.proofs.message.power_of_256.Goals as goal

fits : (exponent : ℕ) → exponent < 8 → (0 < 256 ^ exponent) × (256 ^ exponent < 2 ^ 64)
fits zero h = (lit< tt, lit< tt)
fits (suc zero) h = (lit< tt, lit< tt)
fits (suc (suc zero)) h = (lit< tt, lit< tt)
fits (suc (suc (suc zero))) h = (lit< tt, lit< tt)
fits (suc (suc (suc (suc zero)))) h = (lit< tt, lit< tt)
fits (suc (suc (suc (suc (suc zero))))) h = (lit< tt, lit< tt)
fits (suc (suc (suc (suc (suc (suc zero)))))) h = (lit< tt, lit< tt)
fits (suc (suc (suc (suc (suc (suc (suc zero))))))) h = (lit< tt, lit< tt)
fits (suc (suc (suc (suc (suc (suc (suc (suc exponent)))))))) h = absurd (omega (arith, h))

pub pow-requires : goal.pow-requires
pow-requires c = (fits c.args.exponent c.requires).1

pub returns-clause-positive : goal.returns-clause-positive
returns-clause-positive c = rw c.pow.ensures (fits c.args.exponent c.requires).0
