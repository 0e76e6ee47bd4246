-- Each step leaves unchanged all that its event does not touch.
use Rattle.std.proofs.Common.{◌≡◌, ◌∙◌, ℕ, ◌==◌, List, [], ap, refl, sym, subst, arith, Bool, true, false}
use Rattle.std.specs.Prelude.{Result, Ok, Err}
use Rattle.std.specs.List.{list_any}
use Rattle.std.proofs.lemmas.List.{append-nil}
use Rattle.std.proofs.lemmas.List.Folds.{list_any-append}
use Rattle.std.proofs.lemmas.Bool.Decides.{nat_tests}
use Rattle.std.proofs.lemmas.Grind.{common_steps}
use Rattle.iol_core.specs.NumberedLists.{is_numbered, numbered_or}
use Rattle.iol_core.specs.State.{State, Pool, pool, is_pool, no_pool, may_read}
use Rattle.iol_core.specs.Meaning.{Meaning, Step}
use Rattle.iol_core.specs.Run.{meaning, StepsTo, outcome}
use Rattle.iol_core.specs.declared.refusals.Refusal.{Refusal}
use Rattle.iol_core.specs.declared.events.Event.{Event}
use Rattle.iol_core.specs.declared.events.Reply.{Reply}
use Rattle.iol_laws.specs.Frame.{Grows, Leaves}
use Rattle.iol_laws.proofs.Frame.Connections.{conns_meant}
use Rattle.iol_laws.proofs.Frame.Descriptors.{fds_meant}
use Rattle.iol_laws.proofs.Frame.Domains.{domains_meant}
use Rattle.iol_laws.proofs.Frame.Files.{store_meant}
use Rattle.iol_laws.proofs.Frame.Pipes.{pipes_meant}
use Rattle.iol_laws.proofs.Tests.{left-true}

unnumbered : {A : Type 0} (xs : List A) (n : ℕ) (z : A) → is_numbered xs n ≡ false → numbered_or xs n z ≡ z
unnumbered xs n z un = grind (arith, nat_tests, common_steps, un)

-- a pool that a domain may read exists
readable : (s : State) (d p : ℕ) → may_read s d p ≡ true → is_pool s p ≡ true
unfolding pool
readable s d p may = by (is_pool s p) refl
  where
    by : (b : Bool) → is_pool s p ≡ b → b ≡ true
    by true is = refl
    by false is =
        absurd (let e = unnumbered s.pools p no_pool is in let f =
        ap (λ (x : Pool). list_any (λ e. e == d) x.domains) e in cc (f, may))

-- a list that grows still names each domain that it named
names_left : (old new : List ℕ) (d : ℕ) → Grows old new → list_any (λ e. e == d) old ≡ true
    → list_any (λ e. e == d) new ≡ true
names_left old new d grows may = ap (λ (l : List ℕ). list_any (λ e. e == d) l) grows.is
    ∙ (list_any-append (λ e. e == d) old grows.more ∙ left-true _ _ may)

readers_left : (s t : State) → ((p : ℕ) → is_pool s p ≡ true → Grows (pool s p).domains (pool t p).domains) → (d p : ℕ)
    → may_read s d p ≡ true → may_read t d p ≡ true
readers_left s t lists d p may = names_left (pool s p).domains (pool t p).domains d (lists p (readable s d p may)) may

leaves_meant : (s : State) (e : Event) → Leaves s e (meaning s e).after
leaves_meant s e =
    let store = store_meant s e in
    let domains = domains_meant s e in
    record {
      conns = conns_meant s e;
      pipes = pipes_meant s e;
      fds = fds_meant s e;
      files = store.files;
      contents = store.contents;
      known = store.known;
      called = store.called;
      numbered = store.numbered;
      lists = store.lists;
      readers = readers_left s (meaning s e).after store.lists;
      pools = store.pools;
      listed = store.listed;
      lives = domains.lives;
      defaults = domains.defaults;
    }

leaves_nothing : (s : State) (e : Event) → Leaves s e s
leaves_nothing s e = record {
  conns = λ c un. refl;
  pipes = λ p un. refl;
  fds = λ d f x is un. is;
  files = λ un. (refl, refl);
  contents = λ f un. refl;
  known = λ f is. refl;
  called = λ name f is. is;
  numbered = λ p is. is;
  lists = λ p is. record { more = []; few = omega arith; is = sym (append-nil (pool s p).domains) };
  readers = λ d p may. may;
  pools = λ p is un none. refl;
  listed = λ p is none. refl;
  lives = λ d live un. live;
  defaults = λ d live un. refl;
}

leaves_outcome : (m : Meaning Reply) (old new : State) (e : Event) (r : Result Reply Refusal) → Leaves old e m.after
    → Step m old r new → Leaves old e new
leaves_outcome m old new e (Ok a) leaves step = subst (λ (s : State). Leaves old e s) (sym step.2) leaves
leaves_outcome m old new e (Err x) leaves step =
    subst (λ (s : State). Leaves old e s) (sym step.1) (leaves_nothing old e)

pub leaves_step : (old new : State) (e : Event) (r : Reply) → StepsTo old e r new → Leaves old e new
leaves_step old new e r step = leaves_outcome (meaning old e) old new e (outcome r) (leaves_meant old e) step
