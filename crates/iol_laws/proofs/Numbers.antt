-- Numbers in replies, and the objects under new numbers.
use Rattle.std.proofs.Common.{◌≡◌, ℕ, List, [], ap, ◌∙◌, refl, sym, Option, Some, None, true, false}
use Rattle.std.specs.Prelude.{option_map, unwrap_or, is_none}
use Rattle.iol_core.specs.Text.{Text, bytes_of}
use Rattle.iol_core.specs.NumberedLists.{lookup, in_place}
use Rattle.iol_core.specs.State.{State, Domain, domain, aggregate, text, descriptor, is_live}
use Rattle.iol_core.specs.Calls.Aggregates as aggs
use Rattle.iol_core.specs.Calls.Descriptors as fds
use Rattle.iol_core.specs.declared.descriptors.Descriptor.{Descriptor}
use Rattle.iol_core.specs.declared.events.Reply.{Reply}
use Rattle.iol_core.specs.declared.events.Reply.TheVariants as reply
use Rattle.iol_laws.specs.Caller.{readable_at}
use Rattle.iol_laws.proofs.Domains.{domain-with_same}
use Rattle.iol_laws.proofs.Places.{lookup-push, place-new}

-- the number in a reply
abbrev pub number : Reply → ℕ
number (reply.Agg n) = n
number (reply.Fd n) = n
number (reply.Count n) = n
number r = 0

-- the text under a number whose bytes are known
pub text-of : (s : State) (d a : ℕ) (bytes : List ℕ) → readable_at s d a ≡ Some bytes → bytes_of (text s d a) ≡ bytes
text-of s d a bytes is = by (aggregate s d a) refl
  where
    by : (o : Option Text) → aggregate s d a ≡ o → bytes_of (text s d a) ≡ bytes
    by None none = (let e = ap (λ (x : Option Text). option_map bytes_of x) none in absurd (cc (is, e)))
    by (Some t) some = ap (λ (x : Option Text). bytes_of (unwrap_or x [])) some
        ∙ ap (λ (x : Option (List ℕ)). unwrap_or x []) (sym (ap (λ (x : Option Text). option_map bytes_of x) some) ∙ is)

-- a number whose bytes are known names an aggregate
pub agg-there : (s : State) (d a : ℕ) (bytes : List ℕ) → readable_at s d a ≡ Some bytes
    → is_none (aggregate s d a) ≡ false
agg-there s d a bytes has = by (aggregate s d a) refl
  where
    by : (o : Option Text) → aggregate s d a ≡ o → is_none o ≡ false
    by None none = absurd (let e = ap (λ (x : Option Text). option_map bytes_of x) none in cc (e, has))
    by (Some x) some = refl

-- a new aggregate is found under its number
pub new_agg : (s : State) (d : ℕ) (kept : List (ℕ × Text)) (t : Text) → is_live s d ≡ true
    → lookup kept (aggs.next_agg s d) ≡ None → aggregate (aggs.with_new s d kept t) d (aggs.next_agg s d) ≡ Some t
new_agg s d kept t live none =
    ap (λ (x : Domain Text). lookup x.aggs (aggs.next_agg s d)) (domain-with_same s d _ live)
    ∙ lookup-push kept (aggs.next_agg s d) t none

pub readable-made : (s t : State) (d : ℕ) (kept : List (ℕ × Text)) (x : Text) → is_live s d ≡ true
    → lookup kept (aggs.next_agg s d) ≡ None → t ≡ aggs.with_new s d kept x
    → readable_at t d (aggs.next_agg s d) ≡ Some (bytes_of x)
readable-made s t d kept x live none same =
    ap (λ (u : State). readable_at u d (aggs.next_agg s d)) same
    ∙ ap (λ (o : Option Text). option_map bytes_of o) (new_agg s d kept x live none)

-- the same after a change that leaves the domain unchanged
pub got-agg : (s mid t : State) (d a : ℕ) (x : Text) → lookup (domain s d).aggs (aggs.next_agg s d) ≡ None
    → domain mid d ≡ domain s d → is_live s d ≡ true → a ≡ aggs.next_agg s d → t ≡ aggs.with_agg mid d x
    → (readable_at t d a ≡ Some (bytes_of x)) × (readable_at s d a ≡ None)
got-agg s mid t d a x none same live is made =
    let next : aggs.next_agg mid d ≡ aggs.next_agg s d = ap (λ (y : Domain Text). y.next_agg) same in
    let none_mid : lookup (domain mid d).aggs (aggs.next_agg mid d) ≡ None =
    ap (λ (y : Domain Text). lookup y.aggs y.next_agg) same ∙ none in (
      ap (λ k. readable_at t d k) (is ∙ sym next)
          ∙ readable-made mid t d (domain mid d).aggs x (ap (λ (y : Domain Text). y.live) same ∙ live) none_mid made,
      ap (λ k. readable_at s d k) is ∙ ap (λ (o : Option Text). option_map bytes_of o) none,
    )

-- a new descriptor is open under the lowest free number
pub new-fd : (s : State) (d : ℕ) (x : Descriptor) → is_live s d ≡ true
    → descriptor (fds.opened s d x) d (fds.next_fd s d) ≡ Some x
new-fd s d x live = ap (λ (y : Domain Text). in_place y.fds (fds.next_fd s d)) (domain-with_same s d _ live)
    ∙ place-new (domain s d).fds x
