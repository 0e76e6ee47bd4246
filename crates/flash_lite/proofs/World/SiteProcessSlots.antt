-- The workers of a site in their process slots.
use Rattle.std.proofs.Common.{◌≡◌, ℕ, zero, suc, ◌<◌, List, [], ◌∷◌, length, map, refl, ap, ◌∙◌, arith, Some}
use Rattle.std.specs.List.{slice_get}
use Rattle.iol_core.specs.declared.events.Reply.TheVariants as reply
use Rattle.iol_proc.specs.World.{process_slot_of}
use Rattle.iol_proc.specs.declared.process_slot.ProcessSlot.{ProcessSlot}
use Rattle.flash_cgi.specs.Works.{IsNew}
use Rattle.flash_cgi.specs.declared.worker.Worker.{Worker}
use Rattle.flash_laws.specs.Run.{worker_domain}
use Rattle.flash_laws.specs.Site.{server}
use Rattle.flash_laws.specs.World.Consistency.{Actor, Serving, Working}
use Rattle.flash_laws.specs.World.{as_actor, process_slots_of, server_with}
use Rattle.flash_lite.specs.NewWorld.{AreInSlots}
use Rattle.flash_lite.specs.Setup.{IsWorkerAt, workers_used}
use Rattle.flash_lite.specs.declared.site.Site.{Site}

-- ---- places in a list

has_place : {A : Type 0} (l : List A) (k : ℕ) → k < length l → (x : A) × (slice_get l k ≡ Some x)
has_place [] k lt = absurd (omega (arith, lt))
has_place (y ∷ l) zero lt = (y, refl)
has_place (y ∷ l) (suc k) lt = has_place l k (omega (arith, lt))

place_within : {A : Type 0} (l : List A) (k : ℕ) (x : A) → slice_get l k ≡ Some x → k < length l
place_within [] k x is = absurd (cc (is))
place_within (y ∷ l) zero x is = omega arith
place_within (y ∷ l) (suc k) x is = (let rest = place_within l k x is in omega (arith, rest))

-- ---- process slots

-- this process slot has a new worker of this number
pub record SitsNew (k : ℕ) (process_slot : ProcessSlot Worker) : Type 0 where
  pub worker : Worker
  pub new : IsNew worker
  pub here : process_slot ≡ process_slot_of (worker_domain k, worker)

-- these actors are workers with the numbers `at`, in these process slots
record AreSitting (at : ℕ → ℕ) (actors : List (ℕ × Actor Worker)) : Type 0 where
  pub process_slots : List (ProcessSlot Worker)
  pub are : map process_slot_of actors ≡ map (λ w. as_actor w) process_slots
  pub many : length process_slots ≡ length actors
  pub each : (k : ℕ) (process_slot : ProcessSlot Worker) → slice_get process_slots k ≡ Some process_slot
      → SitsNew (at k) process_slot

one_more : (at : ℕ → ℕ) (actor : ℕ × Actor Worker) (actors : List (ℕ × Actor Worker)) → IsWorkerAt (at 0) actor
    → AreSitting (λ k. at (suc k)) actors → AreSitting at (actor ∷ actors)
one_more at (d, Serving s) actors is rest = absurd is
one_more at (d, Working w) actors is rest = record {
  process_slots = first ∷ rest.process_slots;
  are = ap (λ (l : List (ProcessSlot (Actor Worker))). process_slot_of (d, Working w) ∷ l) rest.are;
  many = ap suc rest.many;
  each = by;
}
  where
    first : ProcessSlot Worker
    first = process_slot_of (d, w)

    by : (k : ℕ) (process_slot : ProcessSlot Worker) → slice_get (first ∷ rest.process_slots) k ≡ Some process_slot
        → SitsNew (at k) process_slot
    by zero process_slot there = record {
      worker = w;
      new = is.1;
      here = (let e : process_slot ≡ first = cc (there) in e ∙ ap (λ (n : ℕ). process_slot_of (n, w)) is.0);
    }
    by (suc k) process_slot there = rest.each k process_slot there

sitting : (at : ℕ → ℕ) (actors : List (ℕ × Actor Worker))
    → ((k : ℕ) (p : ℕ × Actor Worker) → slice_get actors k ≡ Some p → IsWorkerAt (at k) p) → AreSitting at actors
sitting at [] each =
    record { process_slots = []; are = refl; many = refl; each = λ k process_slot is. absurd (cc (is)) }
sitting at (p ∷ ps) each = one_more at p ps (each 0 p refl) (sitting (λ k. at (suc k)) ps (λ k q is. each (suc k) q is))

-- ---- the workers of a site

-- its workers: as many as are used, each new, in its domain
pub record HasWorkerSet (s : Site) (process_slots : List (ProcessSlot (Actor Worker))) : Type 0 where
  pub workers : List (ProcessSlot Worker)
  pub process_slots_are : process_slots ≡ process_slots_of (server_with (workers_used s)) reply.Done workers
  pub there : (k : ℕ) → k < workers_used s → (process_slot : ProcessSlot Worker)
      × (slice_get workers k ≡ Some process_slot)
  pub number : (k : ℕ) (process_slot : ProcessSlot Worker) → slice_get workers k ≡ Some process_slot
      → k < workers_used s
  pub each : (k : ℕ) (process_slot : ProcessSlot Worker) → slice_get workers k ≡ Some process_slot
      → SitsNew k process_slot

pub has_worker_set : (s : Site) (process_slots : List (ProcessSlot (Actor Worker))) → AreInSlots s process_slots
    → HasWorkerSet s process_slots
has_worker_set s process_slots h =
    let all = sitting (λ k. k) h.are.workers h.are.each in
    let many : length all.process_slots ≡ workers_used s = all.many ∙ h.are.many in
    record {
      workers = all.process_slots;
      process_slots_are = h.process_slots_are
          ∙ (ap (λ (l : List (ℕ × Actor Worker)). map process_slot_of l) h.are.are
          ∙ ap
          (λ (l : List (ProcessSlot (Actor Worker))). process_slot_of
          (server, Serving (server_with (workers_used s))) ∷ l) all.are);
      there = λ k lt. has_place all.process_slots k (omega (arith, lt, many));
      number = λ k process_slot is. (let lt = place_within all.process_slots k process_slot is in
          omega (arith, lt, many));
      each = all.each;
    }
