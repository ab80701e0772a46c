-- An outlet stays the same, whatever it is given.
use Rattle.std.proofs.Common.{◌≡◌, ◌∙◌, ap, refl, sym, ℕ, suc, ◌+◌, List, [], ◌∷◌, map}
use Rattle.std.specs.List.{slice_get}
use Rattle.atomic_table.specs.Seated.{TableId}
use Rattle.es_base.specs.declared.event.Message.{Message}
use Rattle.es_base.specs.declared.port.PortKind.{PortKind}
use Rattle.es_base.specs.declared.port.PortKind.TheVariants as kinds
use Rattle.es_base.specs.Port.{Port}
use Rattle.es_base.specs.Settings.{Settings}
use Rattle.mailbox_port.specs.Port.{new_port}
use Rattle.message_ring.specs.Queue.{QueueId}
use Rattle.receiver.specs.declared.ends.PortEnd.{PortEnd}
use Rattle.receiver.specs.declared.partition.PartitionEnd.{PartitionEnd}
use Rattle.receiver.specs.declared.partition.PartitionEnd.TheVariants as ends
use Rattle.receiver.specs.declared.port.PortOutlet.{PortOutlet}
use Rattle.receiver.specs.declared.port.PortOutlet.TheVariants as outlets
use Rattle.receiver.specs.Ends.{ArePortsOpened}
use Rattle.receiver.specs.Link.{IsNewLink}
use Rattle.receiver.specs.Outlet.{GivesAt, reads_by}
use Rattle.receiver.specs.Queue.{new_queue}
use Rattle.receiver.specs.Port.{GivesPort, ReadsAs, ReadsPort, ShowsPort}
use Rattle.live_system.specs.Calls.{LiveLink, as_opened, new_outlet}

same_outlet : (old new : PortOutlet) (messages : List Message) → GivesPort old new messages → new_outlet new ≡ new_outlet old
same_outlet (outlets.Sampling old) (outlets.Sampling new) messages gives =
    ap (λ (buffers : List TableId). outlets.Sampling (new_port buffers new.longest)) gives.0 ∙ ap (λ (longest : ℕ). outlets.Sampling (new_port old.buffers longest)) gives.1
same_outlet (outlets.Queuing old) (outlets.Queuing new) messages gives =
    ap (λ (queue : QueueId). outlets.Queuing (new_queue queue new.known.depth)) gives.0 ∙ ap (λ (depth : ℕ). outlets.Queuing (new_queue old.known.queue depth)) gives.1
same_outlet (outlets.Sampling old) (outlets.Queuing new) messages gives = absurd gives
same_outlet (outlets.Queuing old) (outlets.Sampling new) messages gives = absurd gives

pub same_outlets : (olds news : List PortOutlet) (messages : ℕ → List Message)
    → ((at : ℕ) → GivesAt GivesPort (slice_get olds at) (slice_get news at) (messages at)) → map new_outlet news ≡ map new_outlet olds
same_outlets [] [] messages gives = refl
same_outlets (old ∷ olds) (new ∷ news) messages gives =
    ap (λ (x : PortOutlet). x ∷ map new_outlet news) (same_outlet old new (messages 0) (gives 0))
    ∙ ap (λ (xs : List PortOutlet). new_outlet old ∷ xs) (same_outlets olds news (λ at. messages (suc at)) (λ at. gives (suc at)))
same_outlets [] (new ∷ news) messages gives = absurd (gives 0)
same_outlets (old ∷ olds) [] messages gives = absurd (gives 0)

-- ---- a new one

new_one : (readers : ℕ) (kind : PortKind) (max : ℕ) (outlet : PortOutlet) (end : PartitionEnd) → ReadsAs readers kind max outlet end → new_outlet outlet ≡ outlet
new_one readers (kinds.Sampling refresh) max outlet (ends.Readers list) reads = rw reads.2 refl
new_one readers (kinds.Sampling refresh) max outlet (ends.Taker taker) reads = absurd reads
new_one readers (kinds.Queuing depth) max outlet end reads = rw reads.1 refl

new_ones : (readers : Port → ℕ) (place : ℕ) (ports : List Port) (outlets : List PortOutlet) (ends : List (PortEnd PartitionEnd)) → ArePortsOpened ShowsPort (reads_by ReadsPort readers) place ports outlets ends → map new_outlet outlets ≡ outlets
new_ones readers place [] [] [] are = refl
new_ones readers place (port ∷ ports) (outlet ∷ outlets) (end ∷ ends) are =
    ap (λ (x : PortOutlet). x ∷ map new_outlet outlets) (new_one (readers port) port.kind port.max outlet end.reads are.0.read)
    ∙ ap (λ (xs : List PortOutlet). outlet ∷ xs) (new_ones readers (place + 1) ports outlets ends are.1)
new_ones readers place (port ∷ ports) (outlet ∷ outlets) [] are = absurd are
new_ones readers place (port ∷ ports) [] ends are = absurd are
new_ones readers place [] (outlet ∷ outlets) ends are = absurd are
new_ones readers place [] [] (end ∷ ends) are = absurd are

-- a new link is as it was opened
pub new_link : (readers : Port → ℕ) (settings : Settings) (link : LiveLink) (ends : List (PortEnd PartitionEnd)) → IsNewLink ShowsPort (reads_by ReadsPort readers) settings link ends → as_opened link ≡ link
new_link readers settings link ends is =
    let past = is.nothing in
    let outlets = new_ones readers 0 settings.ports link.outlets ends is.opened in
    let received : link.received ≡ 0 = rw past at is.ported.counted in
    (λ i. record { core = record { settings = link.core.settings; past = sym past i }; outlets = outlets i; received = sym received i })
