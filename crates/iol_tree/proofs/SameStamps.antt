-- Stamps that are the same.
use Rattle.std.proofs.Common.{◌≡◌, ◌≤◌, ◌&&◌, ◌==◌, ℤ, Bool, true, List, refl, ap, subst}
use Rattle.std.specs.Bool.{Decides}
use Rattle.std.specs.Ordering.{int_eq}
use Rattle.std.specs.Cmp.{first_so, second_so}
use Rattle.std.specs.Cmp.Lexicographic.{pointwise, pointwise_decides}
use Rattle.std.proofs.lemmas.Bool.Decides.{Decides-eqb, Decides-int_eq}
use mathlib.Core.HLevel.{is_prop→PathP}
use native.Mathlib.Bridge.{le_prop}
use Rattle.iol_core.specs.declared.limits.TheConstants.{MAX_FILE_BYTES}
use Rattle.iol_tree.specs.declared.stamp.Stamp.{Stamp}
use Rattle.iol_tree.specs.contracts.stamp.StampPartialEq.TheImpl.{eq-value}

-- both tests are true
both_so : (s t : Bool) → (s && t) ≡ true → (s ≡ true) × (t ≡ true)
both_so s t e = (first_so s t e, second_so s t e)

-- the test of two times
times_decide : (a b : ℤ × ℤ) → Decides (int_eq a.0 b.0 && int_eq a.1 b.1) (a ≡ b)
times_decide a b = (
  (λ e. let so = both_so (int_eq a.0 b.0) (int_eq a.1 b.1) e in
      λ i. ((Decides-int_eq a.0 b.0).0 so.0 i, (Decides-int_eq a.1 b.1).0 so.1 i)),
  (λ e. λ i. (Decides-int_eq a.0 b.0).1 (ap (λ (p : ℤ × ℤ). p.0) e) i && (Decides-int_eq a.1 b.1).1
      (ap (λ (p : ℤ × ℤ). p.1) e) i),
)

-- the derived test of two stamps
same : (x y : Stamp) → eq-value.it x y ≡ true → x ≡ y
same x y e =
    let device = both_so (x.device == y.device) _ e in
    let node = both_so (x.node == y.node) _ device.1 in
    let len = both_so (x.length == y.length) _ node.1 in
    let times = both_so (int_eq x.written.0 y.written.0 && int_eq x.written.1 y.written.1) _ len.1 in
    let of_length = (Decides-eqb x.length y.length).0 len.0 in
    λ i. record {
      device = (Decides-eqb x.device y.device).0 device.0 i;
      node = (Decides-eqb x.node y.node).0 node.0 i;
      length = of_length i;
      written = (times_decide x.written y.written).0 times.0 i;
      changed = (times_decide x.changed y.changed).0 times.1 i;
      short = is_prop→PathP (λ j. of_length j ≤ MAX_FILE_BYTES) (λ j. le_prop) x.short y.short i;
    }

itself : (x : Stamp) → eq-value.it x x ≡ true
itself x = λ i.
    (Decides-eqb x.device x.device).1 refl i && ((Decides-eqb x.node x.node).1 refl i
    && ((Decides-eqb x.length x.length).1 refl i && ((times_decide x.written x.written).1 refl i &&
    (times_decide x.changed x.changed).1 refl i)))

pub stamp_decides : (x y : Stamp) → Decides (eq-value.it x y) (x ≡ y)
stamp_decides x y = (same x y, λ e. subst (λ z. eq-value.it x z ≡ true) e (itself x))

pub stamps_decide : (a b : List Stamp) → Decides (pointwise eq-value.it a b) (a ≡ b)
stamps_decide = pointwise_decides stamp_decides
