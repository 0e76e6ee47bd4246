-- Calls of a taker, one after another.
use Rattle.std.proofs.Common.{◌≡◌, ℕ, ◌<◌, List, [], ◌∷◌, length, refl, subst, sym}
use Rattle.iol_sock.specs.Gathers.{AreCalls, Gathering, IsCalled}

module _ {G : Type 0} (gathers : G → List ℕ → ℕ → G → Type 0) where
  -- Calls that took all that they were offered: a taker may be called again.
  abbrev pub TookAll : (before : G) → List (Gathering G) → (after : G) → Type 0
  TookAll before [] after = after ≡ before
  TookAll before (c ∷ cs) after = gathers before c.offered c.taken c.after × (0 < length c.offered)
      × (c.taken ≡ length c.offered) × TookAll c.after cs after

  abbrev pub HasTaken : (before after : G) → Type 0
  HasTaken before after = (calls : List (Gathering G)) × TookAll before calls after

  are_calls : (a b : G) (calls : List (Gathering G)) → TookAll a calls b → AreCalls gathers a calls b
  are_calls a b [] is = is
  are_calls a b (c ∷ calls) (call, some, all, rest) = (call, some, (λ more. all), are_calls c.after b calls rest)

  pub called : (a b : G) → HasTaken a b → IsCalled gathers a b
  called a b before = (before.0, are_calls a b before.0 before.1)

  -- one more call
  then_last : (a b : G) (calls : List (Gathering G)) (c : Gathering G) → TookAll a calls b
      → gathers b c.offered c.taken c.after → 0 < length c.offered → IsCalled gathers a c.after
  then_last a b [] c same call some =
      (c ∷ [], (subst (λ z. gathers z c.offered c.taken c.after) same call, some, (λ more. absurd (more refl)), refl))
  then_last a b (d ∷ calls) c (first, offered, all, is) call some =
      let rest = then_last d.after b calls c is call some in
      (d ∷ rest.0, (first, offered, (λ more. all), rest.1))

  pub one_more : (a b d : G) (offered : List ℕ) (n : ℕ) → HasTaken a b → gathers b offered n d → 0 < length offered
      → IsCalled gathers a d
  one_more a b d offered n before call some =
      then_last a b before.0 (record { offered = offered; taken = n; after = d }) before.1 call some

  -- one more call, which took all
  then_whole : (a b : G) (calls : List (Gathering G)) (c : Gathering G) → TookAll a calls b
      → gathers b c.offered c.taken c.after → 0 < length c.offered → c.taken ≡ length c.offered → HasTaken a c.after
  then_whole a b [] c same call some whole =
      (c ∷ [], (subst (λ z. gathers z c.offered c.taken c.after) same call, some, whole, refl))
  then_whole a b (d ∷ calls) c (first, offered, all, is) call some whole =
      let rest = then_whole d.after b calls c is call some whole in
      (d ∷ rest.0, (first, offered, all, rest.1))

  pub one_whole : (a b d : G) (offered : List ℕ) (n : ℕ) → HasTaken a b → gathers b offered n d → 0 < length offered
      → n ≡ length offered → HasTaken a d
  one_whole a b d offered n before call some whole =
      then_whole a b before.0 (record { offered = offered; taken = n; after = d }) before.1 call some whole

  -- A reflexive and transitive relation that holds for each call holds for all calls together.
  module _ (R : G → G → Type 0) (same : (a : G) → R a a) (then' : (a b d : G) → R a b → R b d
      → R a d) (each : (a : G) (offered : List ℕ) (n : ℕ) (b : G) → gathers a offered n b → R a b) where
    all_keep : (a b : G) (calls : List (Gathering G)) → AreCalls gathers a calls b → R a b
    all_keep a b [] is = subst (λ z. R a z) (sym is) (same a)
    all_keep a b (c ∷ calls) (call, some, all, rest) =
        then' a c.after b (each a c.offered c.taken c.after call) (all_keep c.after b calls rest)

    pub kept : (a b : G) → IsCalled gathers a b → R a b
    kept a b called = all_keep a b called.0 called.1
