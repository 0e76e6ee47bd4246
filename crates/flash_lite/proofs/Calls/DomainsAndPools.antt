-- The results of the calls that create domains and pools, and of those that set default pools.
use Rattle.std.proofs.Common.{◌≡◌, ℕ, zero, suc, ◌+◌, ◌-◌, ◌==◌, ◌≤◌, ◌<◌, List, [], ◌∷◌, ◌++◌, length, map, replicate}
use Rattle.std.proofs.Common.{refl, sym, subst, ap, ◌∙◌, arith, append_assoc, Some, true, false, Bool}
use Rattle.std.specs.Prelude.{if◌then◌else◌, fold, slice_set}
use Rattle.std.specs.List.{list_any, range_with_len}
use Rattle.std.proofs.lemmas.Bool.Decides.{nat_tests}
use Rattle.std.proofs.lemmas.Grind.{common_steps}
use Rattle.std.proofs.Math.Seq.{set-append_seam}
use Rattle.std.proofs.lemmas.List.{append-nil}
use Rattle.std.proofs.lemmas.List.Folds.{list_any-append}
use Rattle.iol_core.specs.Text.{Text}
use Rattle.iol_core.specs.NumberedLists.{numbered_or, with_numbered}
use Rattle.iol_core.specs.Calls.Pools.{with_name, distinct}
use Rattle.iol_core.specs.State.{State, Domain, Pool, domain, with_domain, new_domain, no_domain}
use Rattle.iol_core.specs.declared.events.Call.TheVariants as call
use Rattle.iol_core.specs.declared.events.Event.{Event}
use Rattle.flash_lite.specs.Setup.{call_by, pool}
use Rattle.flash_lite.specs.SiteState.{pool_for, pools_of}
use Rattle.flash_lite.proofs.Calls.PassedRuns.{Passes}

-- ---- pools

later : (acc : List ℕ) (a e : ℕ) → a < e → list_any (λ x. x == e) acc ≡ false
    → list_any (λ x. x == e) (acc ++ a ∷ []) ≡ false
later acc a e lt none = let h = list_any-append (λ x. x == e) acc (a ∷ []) in
    grind (arith, nat_tests, common_steps, h, lt, none)

-- each of ascending names is new
names_rise : (n : ℕ) (acc : List ℕ) (a : ℕ) → ((e : ℕ) → a ≤ e → list_any (λ x. x == e) acc ≡ false)
    → fold (λ found d. with_name found d) acc (range_with_len a n) ≡ acc ++ range_with_len a n
names_rise zero acc a new = sym (append-nil acc)
names_rise (suc n) acc a new =
    let here : with_name acc a ≡ acc ++ a ∷ [] =
    ap (λ (b : Bool). if b then acc else acc ++ a ∷ []) (new a (omega arith)) in
    let rest =
    names_rise n (acc ++ a ∷ []) (a + 1) (λ e le. later acc a e (omega (arith, le)) (new e (omega (arith, le)))) in
    ap (λ (l : List ℕ). fold (λ found d. with_name found d) l (range_with_len (a + 1) n)) here
    ∙ (rest ∙ append_assoc acc (a ∷ []) (range_with_len (a + 1) n))

distinct-range : (a n : ℕ) → distinct (range_with_len a n) ≡ range_with_len a n
distinct-range a n = names_rise n [] a (λ e le. refl)

-- ---- default pools

pub numbered-there : {A : Type 0} (xs ys : List A) (x z : A) → numbered_or (xs ++ x ∷ ys) (1 + length xs) z ≡ x
numbered-there xs ys x z = grind (arith, nat_tests, common_steps)

pub with-there : {A : Type 0} (xs ys : List A) (x y : A) → with_numbered (xs ++ x ∷ ys) (1 + length xs) y ≡ xs ++ y ∷ ys
with-there xs ys x y =
    let some : (1 + length xs == 0) ≡ false = grind (arith, nat_tests) in
    let before : 1 + length xs - 1 ≡ length xs = omega arith in
    ap (λ (b : Bool). if b then xs ++ x ∷ ys else slice_set (xs ++ x ∷ ys) (1 + length xs - 1) y) some
    ∙ (ap (λ (k : ℕ). slice_set (xs ++ x ∷ ys) k y) before ∙ set-append_seam xs x ys y)

abbrev pub in_work : Domain Text → Domain Text
in_work d = record d { default = Some 3 }

module _ (Of : List (List ℕ) → Type 0) where
  -- ---- domains

  pub domains_made : (n a : ℕ) (s t : State) → Passes Of s (map (λ k. call_by 1 call.DomainNew) (range_with_len a n)) t
      → t ≡ record s { domains = s.domains ++ replicate n new_domain }
  domains_made zero a s t all =
      all ∙ ap (λ (ds : List (Domain Text)). record s { domains = ds }) (sym (append-nil s.domains))
  domains_made (suc n) a s t all =
      let rest = domains_made n (a + 1) (record s { domains = s.domains ++ new_domain ∷ [] }) t all.3 in
      rest
      ∙ ap (λ (ds : List (Domain Text)). record s { domains = ds })
      (append_assoc s.domains (new_domain ∷ []) (replicate n new_domain))

  pool_made : (c a n : ℕ) (es : List Event) (s t : State) → Passes Of s (pool c a n ∷ es) t
      → Passes Of (record s { pools = s.pools ++ pool_for a n ∷ [] }) es t
  pool_made c a n es s t all =
      subst (λ (l : List ℕ). Passes Of (record s { pools = s.pools ++ record { domains = l; closed = false } ∷ [] }) es
      t) (distinct-range a n) all.3

  pub pools_made : (private : Bool) (w g c1 c2 c3 c4 : ℕ) (s t : State) → s.pools ≡ []
      → Passes Of s ((pool c1 1 (1 + w + g) ∷ pool c2 1 1 ∷ pool c3 1 (1 + w + g) ∷ [])
      ++ (if private then pool c4 (2 + w) 1 ∷ [] else [])) t → t ≡ record s { pools = pools_of private w g }
  pools_made private w g c1 c2 c3 c4 s t empty all =
      let n = 1 + w + g in
      let more : List Event = if private then pool c4 (2 + w) 1 ∷ [] else [] in
      let start : Passes Of (record s { pools = [] }) (pool c1 1 n ∷ pool c2 1 1 ∷ pool c3 1 n ∷ more) t =
      subst (λ (ps : List Pool). Passes Of (record s { pools = ps }) (pool c1 1 n ∷ pool c2 1 1 ∷ pool c3 1 n
      ∷ more) t) empty all in
      let one = pool_made c1 1 n (pool c2 1 1 ∷ pool c3 1 n ∷ more) (record s { pools = [] }) t start in
      let two = pool_made c2 1 1 (pool c3 1 n ∷ more) (record s { pools = pool_for 1 n ∷ [] }) t one in
      let three = pool_made c3 1 n more (record s { pools = pool_for 1 n ∷ pool_for 1 1 ∷ [] }) t two in
      vault private three
    where
      vault : (b : Bool)
          → Passes Of (record s { pools = pool_for 1 (1 + w + g) ∷ pool_for 1 1 ∷ pool_for 1 (1 + w + g) ∷ [] })
          (if b then pool c4 (2 + w) 1 ∷ [] else []) t → t ≡ record s { pools = pools_of b w g }
      vault true rest =
          pool_made c4 (2 + w) 1 []
          (record s { pools = pool_for 1 (1 + w + g) ∷ pool_for 1 1 ∷ pool_for 1 (1 + w + g) ∷ [] }) t rest
      vault false rest = rest

  pub defaults_set : (back front : List (Domain Text)) (a : ℕ) (s t : State) → s.domains ≡ front ++ back
      → length front ≡ a → Passes Of s (map (λ k. call_by (1 + k) (call.SetPool 3)) (range_with_len a (length back))) t
      → t ≡ record s { domains = front ++ map in_work back }
  unfolding domain with_domain
  defaults_set [] front a s t is count all = all ∙ ap (λ (ds : List (Domain Text)). record s { domains = ds }) is
  defaults_set (d ∷ back) front a s t is count all =
      let none : Domain Text = no_domain in
      let there : domain s (1 + a) ≡ d = ap (λ (ds : List (Domain Text)). numbered_or ds (1 + a) none) is
      ∙ (ap (λ (k : ℕ). numbered_or (front ++ d ∷ back) (1 + k) none) (sym count)
      ∙ numbered-there front back d none) in
      let set : with_domain s (1 + a) (in_work (domain s (1 + a))) ≡ record s { domains = front ++ in_work d ∷ back } =
      ap (λ (x : Domain Text). with_domain s (1 + a) (in_work x)) there
      ∙ (ap (λ (ds : List (Domain Text)). record s { domains = with_numbered ds (1 + a) (in_work d) }) is
      ∙ (ap (λ (k : ℕ). record s { domains = with_numbered (front ++ d ∷ back) (1 + k) (in_work d) }) (sym count)
      ∙ ap (λ (ds : List (Domain Text)). record s { domains = ds }) (with-there front back d (in_work d)))) in
      let more : Passes Of (record s { domains = front ++ in_work d ∷ back })
      (map (λ k. call_by (1 + k) (call.SetPool 3)) (range_with_len (a + 1) (length back))) t =
      subst
      (λ (m : State).
      Passes Of m (map (λ k. call_by (1 + k) (call.SetPool 3)) (range_with_len (a + 1) (length back))) t) set
      all.3 in
      let longer : length (front ++ in_work d ∷ []) ≡ a + 1 = grind (arith, common_steps, count) in
      let rest = defaults_set back (front ++ in_work d ∷ []) (a + 1) (record s { domains = front ++ in_work d ∷ back })
      t (sym (append_assoc front (in_work d ∷ []) back)) longer more in
      rest
      ∙ ap (λ (ds : List (Domain Text)). record s { domains = ds })
      (append_assoc front (in_work d ∷ []) (map in_work back))
