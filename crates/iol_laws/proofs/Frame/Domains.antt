-- The domains that each event leaves unchanged.
use Rattle.std.proofs.Common.{inl, inr, ◌≡◌, ℕ, ◌==◌, List, ap, ◌∙◌, refl, subst, sym, arith, Option, Some, None, true}
use Rattle.std.proofs.Common.{false, Bool}
use Rattle.std.specs.Prelude.{◌&&◌}
use Rattle.std.specs.List.{list_any}
use Rattle.std.proofs.lemmas.Bool.Decides.{nat_tests}
use Rattle.iol_core.specs.Text.{Text}
use Rattle.iol_core.specs.State.{State, Domain, domain, is_live, descriptor, new_domain, with_content}
use Rattle.iol_core.specs.Run.{meaning}
use Rattle.iol_core.specs.declared.descriptors.Descriptor.{Descriptor}
use Rattle.iol_core.specs.declared.descriptors.Descriptor.TheVariants as on
use Rattle.iol_core.specs.declared.events.Call.{Call}
use Rattle.iol_core.specs.declared.events.Call.TheVariants as call
use Rattle.iol_core.specs.declared.events.Event.{Event}
use Rattle.iol_core.specs.declared.events.Event.TheVariants as event
use Rattle.iol_core.proofs.Lookups.{domain-with_domain, domain-same, domain-push}
use Rattle.iol_laws.specs.Frame.{ends, sets_default}
use Rattle.iol_laws.proofs.Changes.{Change, OnDomain, OnPipe, OnConn, NewDomain, OfDomain, Ends, Prefers, Act, Writes}
use Rattle.iol_laws.proofs.Changes.{domain_by, changed, all_changed, changes, own, uses, used_as, hands, kept_all}
use Rattle.iol_laws.proofs.Changes.{changes-meant, none_at_all, none_changed}
use Rattle.iol_laws.proofs.Domains.{domains-with_conn, domains-with_pipe}
use Rattle.iol_laws.proofs.Tests.{both-false}

-- whether a change is of this domain, and passes the test
abbrev pub is_of : (OfDomain → Bool) → (d : ℕ) → Change → Bool
is_of test d (OnDomain e x) = test x && (e == d)
is_of test d c = false

untested : (test : Bool) (e d : ℕ) → (test && (e == d)) ≡ false → e ≡ d → test ≡ false
untested test e d un same = grind (arith, nat_tests, un, same)

-- A function of a domain that only changes which pass a test may change.
module _ {A : Type 0} (f : Domain Text → A) (test : OfDomain → Bool) (each : (x : OfDomain) (y : Domain Text)
    → test x ≡ false → (f (domain_by x y) ≡ f y) × ((domain_by x y).live ≡ y.live)) where
  field_same : (s t : State) (d : ℕ) (v : A) → domain t d ≡ domain s d → (is_live s d ≡ true) × (f (domain s d) ≡ v)
      → (is_live t d ≡ true) × (f (domain t d) ≡ v)
  field_same s t d v same was = subst (λ (x : Domain Text). (x.live ≡ true) × (f x ≡ v)) (sym same) was

  field_changed : (d : ℕ) (v : A) (s : State) (c : Change) → is_of test d c ≡ false
      → (is_live s d ≡ true) × (f (domain s d) ≡ v) → (is_live (changed s c) d ≡ true)
      × (f (domain (changed s c) d) ≡ v)
  unfolding with_content
  field_changed d v s (OnDomain e x) un was = elim (domain-with_domain s e d (domain_by x (domain s e))) [
    | inl both ↦ (let kept = each x (domain s e) (untested (test x) e d un both.0) in let old =
        subst (λ n. (is_live s n ≡ true) × (f (domain s n) ≡ v)) (sym both.0) was in
        subst (λ (y : Domain Text). (y.live ≡ true) × (f y ≡ v)) (sym both.1) (kept.1 ∙ old.0, kept.0 ∙ old.1))
    | inr same ↦ field_same s _ d v same was
  ]
  field_changed d v s (OnPipe p x) un was = field_same s _ d v (domain-same s _ d (domains-with_pipe s p _)) was
  field_changed d v s (OnConn c x) un was = field_same s _ d v (domain-same s _ d (domains-with_conn s c _)) was
  field_changed d v s NewDomain un was = elim (domain-push s new_domain d) [
    | inl same ↦ field_same s _ d v same was
    | inr both ↦ absurd (let e = ap (λ (x : Domain Text). x.live) both.0 in let l = was.0 in cc (e, l))
  ]
  field_changed d v s c un was = field_same s (changed s c) d v (domain-same s (changed s c) d refl) was

  field_all : (s : State) (cs : List Change) (d : ℕ) → list_any (is_of test d) cs ≡ false → is_live s d ≡ true
      → (is_live (all_changed s cs) d ≡ true) × (f (domain (all_changed s cs) d) ≡ f (domain s d))
  field_all s cs d un live =
      kept_all (λ t. (is_live t d ≡ true) × (f (domain t d) ≡ f (domain s d))) (is_of test d)
      (field_changed d (f (domain s d))) s cs un (live, refl)

-- whether a change ends a domain or, if b is true, sets its default pool
abbrev pub ends_or : Bool → OfDomain → Bool
ends_or b Ends = true
ends_or b (Prefers p) = b
ends_or b x = false

none_used : (b : Bool) (s : State) (by fd d : ℕ) (o : Option Descriptor) (act : Act)
    → list_any (is_of (ends_or b) d) (used_as s by fd o act) ≡ false
none_used b s by fd d (Some (on.File f at mode)) (Writes w) = refl
none_used b s by fd d (Some (on.ReadEnd p)) (Writes w) = refl
none_used b s by fd d (Some (on.WriteEnd p)) (Writes w) = refl
none_used b s by fd d o act = refl

none_own : (b : Bool) (s : State) (by d : ℕ) (k : Call) → ends (event.Call by k) d ≡ false
    → (b && sets_default (event.Call by k) d) ≡ false → list_any (is_of (ends_or b) d) (own s by k) ≡ false
none_own b s by d call.Exit un sets = both-false _ _ un refl
none_own b s by d (call.SetPool p) un sets = both-false _ _ sets refl
none_own b s by d (call.GiveFd fd to) un sets =
    elim (descriptor s by fd) as (λ o. list_any (is_of (ends_or b) d) (hands by fd to o) ≡ false) [
      | None ↦
          refl
      | Some x ↦ refl
    ]
none_own b s by d k un sets = refl

none_meant : (b : Bool) (s : State) (e : Event) (d : ℕ) → ends e d ≡ false → (b && sets_default e d) ≡ false
    → list_any (is_of (ends_or b) d) (changes s e) ≡ false
none_meant b s (event.Call by k) d un sets =
    none_changed s by k (λ u. false) _ (λ u none. none_used b s u.by u.fd d u.end u.act) (none_at_all (uses s by k))
    (none_own b s by d k un sets)
none_meant b s e d un sets = refl

-- an event that may end a domain is one that may change its default pool
not_ended : (e : Event) (d : ℕ) → sets_default e d ≡ false → ends e d ≡ false
not_ended (event.Call by call.Exit) d un = un
not_ended (event.Call by k) d un = refl
not_ended e d un = refl

-- the live domains and the default pools that an event leaves unchanged
pub record KeepsDomains (s : State) (e : Event) (t : State) : Type 0 where
  pub lives : (d : ℕ) → is_live s d ≡ true → ends e d ≡ false → is_live t d ≡ true
  pub defaults : (d : ℕ) → is_live s d ≡ true → sets_default e d ≡ false → (domain t d).default ≡ (domain s d).default

pub domains_meant : (s : State) (e : Event) → KeepsDomains s e (meaning s e).after
domains_meant s e = subst (KeepsDomains s e) (sym (changes-meant s e)) (record {
  lives =
      λ d live un. (field_all (λ x. x.live) (ends_or false) alive s (changes s e) d (none_meant false s e d un refl)
      live).0;
  defaults =
      λ d live un.
      (field_all (λ x. x.default) (ends_or true) settled s (changes s e) d (none_meant true s e d (not_ended e d un) un)
      live).1;
})
  where
    alive : (x : OfDomain) (y : Domain Text) → ends_or false x ≡ false → ((domain_by x y).live ≡ y.live)
        × ((domain_by x y).live ≡ y.live)
    alive Ends y un = absurd (cc)
    alive x y un = (refl, refl)

    settled : (x : OfDomain) (y : Domain Text) → ends_or true x ≡ false → ((domain_by x y).default ≡ y.default)
        × ((domain_by x y).live ≡ y.live)
    settled Ends y un = absurd (cc)
    settled (Prefers p) y un = absurd (cc)
    settled x y un = (refl, refl)
