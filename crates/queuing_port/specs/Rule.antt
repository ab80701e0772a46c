-- The rule of a queue, over the messages that it holds and over what each pass knows. A pass is a right
-- to put, to take, or to do both, and has a number. There are four kinds of step: a put that enters
-- (`PutsLast`), one that finds the queue full (`PutterFinds` as many messages as its depth), a take that
-- gets a message (`TakesNext`), and one that finds the queue empty (`TakerFinds` none).
use Rattle.std.specs.Prelude.{◌≡◌, ℕ, Bool, true, List, [], ◌∷◌, ◌++◌}
use mathlib.Core.Option.{some}
use lib.ListN.{get_elem?}
use Rattle.es_base.specs.declared.event.Message.{Message}
use Rattle.queuing_port.specs.declared.rule.Log.{Log}
use Rattle.es_base.specs.Queue.{BeginsWith}
use Rattle.queuing_port.specs.Queue.{TakerFinds}

abbrev pub log : Bool → Bool → List Message → List Message → Log
log puts takes put taken = record {
  puts = puts;
  takes = takes;
  put = put;
  taken = taken;
  put_before = [];
  taken_before = [];
}

-- the pass in which two ends met: it knows both lists whole, and what each end knew of the other's before
abbrev pub joined_passes : Log → Log → Log
joined_passes putter taker = record {
  puts = true;
  takes = true;
  put = putter.put;
  taken = taker.taken;
  put_before = taker.put;
  taken_before = putter.taken;
}

-- Only one pass may put, and it knows the put list and a beginning of the taken list. Only one may take,
-- and it knows the taken list and a beginning of the put list.
abbrev pub FitsPass : ℕ → ℕ → List Message → List Message → ℕ → Log → Type 0
FitsPass putter taker put taken number view =
    (view.puts ≡ true → (number ≡ putter) × (view.put ≡ put) × BeginsWith taken view.taken)
    × (view.takes ≡ true → (number ≡ taker) × (view.taken ≡ taken) × BeginsWith put view.put)

-- what the ends of a pass knew before they met begins what was put and what was taken
abbrev pub FitsBefore : List Message → List Message → ℕ → Log → Type 0
FitsBefore put taken number view = BeginsWith put view.put_before × BeginsWith taken view.taken_before

-- what was put is what was taken and then what the queue holds
-- rule: PORT-11, PORT-12
pub record InOrder (held : List Message) (views : List Log) : Type 0 where
  pub putter : ℕ
  pub taker : ℕ
  pub put : List Message
  pub taken : List Message
  pub rest : put ≡ taken ++ held
  pub each : (number : ℕ) (view : Log) → get_elem? views number ≡ some view → FitsPass putter taker put taken number view
  pub before : (number : ℕ) (view : Log) → get_elem? views number ≡ some view → FitsBefore put taken number view

-- ---- the steps: a view before, the message, and the view after

-- the message was put at the end
abbrev pub PutsLast : Log → Message → Log → Type 0
PutsLast before message after = after ≡ log before.puts before.takes (before.put ++ message ∷ []) before.taken

-- the message was taken, and the queue held these later ones
abbrev pub TakesNext : Log → Message → Log → Type 0
TakesNext before message after =
    (after ≡ log before.puts before.takes before.put (before.taken ++ message ∷ []))
    × ((later : List Message) × TakerFinds before.taken before.put (message ∷ later))
