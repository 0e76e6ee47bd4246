-- Ends that were taken from a domain, and are closed one after another.
use Rattle.std.proofs.Common.{◌≡◌, ℕ, suc, ◌+◌, ◌<◌, ◌≤◌, List, [], ◌∷◌, length, drop, ap, ◌∙◌, sym, subst, arith}
use Rattle.std.specs.List.{AllByRecursion}
use Rattle.std.proofs.Common.{Option, Some, get_or, true}
use Rattle.std.proofs.Math.Seq.{drop-cons}
use Rattle.std.proofs.lemmas.List.Sums.{sum_by-cons}
use Rattle.iol_core.specs.declared.descriptors.Descriptor.{Descriptor}
use Rattle.iol_desc.specs.Tables.{domain_in, with_fds_in}
use Rattle.iol_kernel.specs.EndCounts.{same_end, on_end, ends_on, all_ends_on}
use Rattle.iol_kernel.specs.KernelState.{KernelState, objects_of, IsOpenEnd, IsSound}
use Rattle.iol_kernel.specs.ClosedEnds.{AreLetGo, AreTaken, KeepsEnds}
use Rattle.iol_kernel.specs.DomainAggregates.{Lives}
use Rattle.iol_kernel.specs.Readings.{bytes_over}
use Rattle.iol_kernel.proofs.State.Once.{end_alone, ends-with_domain, once_fewer}
use Rattle.iol_kernel.proofs.State.Sound.{ends_open}
use Rattle.iol_kernel.proofs.State.Effects.{fds-sound}
use Rattle.iol_kernel.proofs.State.ReadOf.{live_held}
use Rattle.iol_kernel.proofs.Queues.ClosedEnds.{ends_kept}
use Rattle.iol_kernel.specs.Views.{Objects}
use Rattle.iol_kernel.proofs.State.Uses.{Domains}
use Rattle.iol_hold.specs.declared.slices.Slice.{Slice}

-- all numbers of a domain are taken

taken-sound : (h : KernelState) (ds : Domains) (d : ℕ) → IsSound h → (domain_in h.domains d).live ≡ true
    → ds ≡ with_fds_in h.domains d [] → IsSound (record h { domains = ds })
taken-sound h ds d sound live is =
    fds-sound h ds d [] sound live is tt (once_fewer h.domains d (record (domain_in h.domains d) { fds = [] }) live
    (λ e. omega arith) sound.once)

taken_ends : (h : KernelState) (ds : Domains) (d : ℕ) (ends : List (Option Descriptor)) → IsSound h
    → (domain_in h.domains d).live ≡ true → ends ≡ (domain_in h.domains d).fds → ds ≡ with_fds_in h.domains d []
    → AreTaken ds (objects_of h) ends
taken_ends h ds d ends sound live is rest = record {
  opened = subst (λ (xs : List (Option Descriptor)). AllByRecursion (IsOpenEnd (objects_of h)) xs) (sym is)
      (ends_open h d sound);
  once =
      λ x. omega (
        arith,
        ap (ends_on x) is,
        ap (all_ends_on x) rest,
        sound.once.each x,
        ends-with_domain x h.domains d (record (domain_in h.domains d) { fds = [] }) live,
      );
}

pub all_let_go : (h : KernelState) (ds : Domains) (d : ℕ) (ends : List (Option Descriptor)) → Lives h d
    → ends ≡ (domain_in h.domains d).fds → ds ≡ with_fds_in h.domains d [] → AreLetGo (record h { domains = ds }) ends
all_let_go h ds d ends lives is rest =
    (let live = live_held (bytes_over [] h.store) h d lives.live in
    record {
      sound = taken-sound h ds d lives.sound live rest;
      taken =
          taken_ends h ds d ends lives.sound live is rest;
    })

-- the first of them

drop_one : {A : Type 0} (xs : List A) (i : ℕ) (z : A) → i < length xs → drop i xs ≡ get_or xs i z ∷ drop (i + 1) xs
drop_one xs i z lt = drop-cons xs i z lt ∙ ap (λ n. get_or xs i z ∷ drop n xs) one
  where
    one : suc i ≡ i + 1
    one = omega arith

module _ (ds : Domains) (qs : Objects (List Slice)) (xs : List (Option Descriptor)) (i : ℕ) (z : Option Descriptor)
    (there : i < length xs) (is : z ≡ get_or xs i z) (taken : AreTaken ds qs (drop i xs)) where
  firstly : AreTaken ds qs (z ∷ drop (i + 1) xs)
  firstly =
      subst (λ (ys : List (Option Descriptor)). AreTaken ds qs ys) (drop_one xs i z there
      ∙ ap (λ (y : Option Descriptor). y ∷ drop (i + 1) xs) (sym is)) taken

  pub first_open : IsOpenEnd qs z
  first_open = firstly.opened.0

  module _ (x : Descriptor) (some : z ≡ Some x) where
    first_once : all_ends_on x ds + (same_end x x + ends_on x (drop (i + 1) xs)) ≤ 1
    first_once = let c = sum_by-cons (on_end x) z (drop (i + 1) xs) in
        omega (arith, c, ap (on_end x) some, firstly.once x)

    pub first_alone : all_ends_on x ds ≡ 0
    first_alone = (end_alone x (drop (i + 1) xs) ds first_once).0

    later_alone : ends_on x (drop (i + 1) xs) ≡ 0
    later_alone = (end_alone x (drop (i + 1) xs) ds first_once).1

    pub later_taken : (new : Objects (List Slice)) → KeepsEnds x qs new → AreTaken ds new (drop (i + 1) xs)
    later_taken new keeps = record {
      opened = ends_kept x qs new keeps (drop (i + 1) xs) firstly.opened.1 later_alone;
      once = λ y. (let c = sum_by-cons (on_end y) z (drop (i + 1) xs) in omega (arith, c, firstly.once y));
    }
