-- Properties of runs: invariants of each step, and functions of events in order.
use Rattle.std.proofs.Common.{◌≡◌, ◌∙◌, ℕ, List, [], ◌∷◌, ◌++◌, length, ap, refl, sym, subst, arith, append_assoc}
use Rattle.std.proofs.Common.{append-nil}
use Rattle.iol_core.specs.State.{State}
use Rattle.iol_core.specs.Run.{StepsTo, Run}
use Rattle.iol_core.specs.declared.events.Event.{Event}
use Rattle.iol_core.specs.declared.events.Reply.{Reply}

-- an invariant of each step is an invariant of a run
pub run_keeps : (P : State → Type 0) → ((s t : State) (e : Event) (r : Reply) → P s → StepsTo s e r t → P t)
    → (s t : State) (es : List Event) (rs : List Reply) → P s → Run s es rs t → P t
run_keeps P step s t [] [] has run = subst (λ (m : State). P m) (sym run) has
run_keeps P step s t (e ∷ es) (r ∷ rs) has run = run_keeps P step run.0 t es rs (step s run.0 e r has run.1) run.2
run_keeps P step s t [] (r ∷ rs) has run = absurd run
run_keeps P step s t (e ∷ es) [] has run = absurd run

-- a run has as many replies as events
pub run-even : (s t : State) (es : List Event) (rs : List Reply) → Run s es rs t → length es ≡ length rs
run-even s t [] [] run = refl
run-even s t (e ∷ es) (r ∷ rs) run = (let rest = run-even run.0 t es rs run.2 in omega (arith, rest))
run-even s t [] (r ∷ rs) run = absurd run
run-even s t (e ∷ es) [] run = absurd run

-- `all` gives the results of `one` for each element of a list with its reply, in order
pub record Reports {A : Type 0} (one : A → Reply → List ℕ) (all : List A → List Reply → List ℕ) : Type 0 where
  pub none : all [] [] ≡ []
  pub next : (x : A) (r : Reply) (xs : List A) (rs : List Reply) → all (x ∷ xs) (r ∷ rs) ≡ one x r ++ all xs rs

module _ {A : Type 0} (one : A → Reply → List ℕ) (all : List A → List Reply → List ℕ) (reports : Reports one all) where
  pub reported-append : (xs ys : List A) (rs qs : List Reply) → length xs ≡ length rs
      → all (xs ++ ys) (rs ++ qs) ≡ all xs rs ++ all ys qs
  reported-append [] ys [] qs even = ap (λ (l : List ℕ). l ++ all ys qs) (sym reports.none)
  reported-append (x ∷ xs) ys (r ∷ rs) qs even =
      reports.next x r (xs ++ ys) (rs ++ qs)
      ∙ (ap (λ (l : List ℕ). one x r ++ l) (reported-append xs ys rs qs (omega (arith, even)))
      ∙ (sym (append_assoc (one x r) (all xs rs) (all ys qs))
      ∙ ap (λ (l : List ℕ). l ++ all ys qs) (sym (reports.next x r xs rs))))
  reported-append [] ys (r ∷ rs) qs even = absurd (omega (arith, even))
  reported-append (x ∷ xs) ys [] qs even = absurd (omega (arith, even))

  pub reported-more : (xs : List A) (rs : List Reply) (x : A) (r : Reply) → length xs ≡ length rs
      → all (xs ++ x ∷ []) (rs ++ r ∷ []) ≡ all xs rs ++ one x r
  reported-more xs rs x r even =
      reported-append xs (x ∷ []) rs (r ∷ []) even
      ∙ ap (λ (l : List ℕ). all xs rs ++ l) (reports.next x r [] []
      ∙ (ap (λ (l : List ℕ). one x r ++ l) reports.none ∙ append-nil (one x r)))
