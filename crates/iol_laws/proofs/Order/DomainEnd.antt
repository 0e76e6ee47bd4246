-- After each event an ended domain has nothing, and an existing pipe has an open end.
use Rattle.std.proofs.Common.{inl, inr, zero, suc, ◌≡◌, ℕ, List, [], ◌∷◌, ap, ◌∙◌, refl, sym, subst, Option, Some, None}
use Rattle.std.proofs.Common.{true, false, Bool, arith}
use Rattle.std.specs.Prelude.{slice_set, unwrap_or, not, ◌||◌, if◌then◌else◌, fold}
use Rattle.std.proofs.lemmas.Bool.{cases_eq}
use Rattle.std.proofs.lemmas.Grind.{common_steps}
use Rattle.iol_core.specs.Text.{Text}
use Rattle.iol_core.specs.NumberedLists.{in_place}
use Rattle.iol_core.specs.State.{State, Domain, Pipe, domain, is_live, descriptor, new_domain, no_domain, new_pipe}
use Rattle.iol_core.specs.State.{with_domain, with_pipe, with_conn, with_content}
use Rattle.iol_core.specs.Meaning.{first}
use Rattle.iol_core.specs.Run.{called, meaning}
use Rattle.iol_core.specs.Calls.Descriptors as fds
use Rattle.iol_core.specs.declared.descriptors.Descriptor.{Descriptor}
use Rattle.iol_core.specs.declared.descriptors.Descriptor.TheVariants as on
use Rattle.iol_core.specs.declared.events.Call.{Call}
use Rattle.iol_core.specs.declared.events.Call.TheVariants as call
use Rattle.iol_core.specs.declared.events.Event.{Event}
use Rattle.iol_core.specs.declared.events.Event.TheVariants as event
use Rattle.iol_core.proofs.Lookups.{domain-with_domain, domain-same, domain-push}
use Rattle.iol_core.proofs.Places.{place-set_other}
use Rattle.iol_laws.specs.Order.{IsOrderly}
use Rattle.iol_laws.proofs.Domains.{domains-with_conn, live-first, both-live, domains-with_pipe}
use Rattle.iol_laws.proofs.Places.{place-old}
use Rattle.iol_laws.proofs.Changes.{Act, Change, OnDomain, OnPipe, NewDomain, NewPipe, Ends, Reads, Writes, changed}
use Rattle.iol_laws.proofs.Changes.{kept_called, none_closings, none_handed, own, used_as, uses}
use Rattle.iol_laws.proofs.Tests.{both-false, not-false}
use Rattle.iol_laws.proofs.Frame.Pipes.{pipes-with_conn}
use Rattle.std.specs.List.{list_any}

pub record AllGone (s : State) : Type 0 where
  pub gone : (d : ℕ) → is_live s d ≡ false → domain s d ≡ no_domain
  pub ends : (p : ℕ) (x : Pipe) → in_place s.pipes p ≡ Some x → (x.reading || x.writing) ≡ true

pub gone_of : (s : State) → IsOrderly s → AllGone s
gone_of s order = record { gone = order.gone; ends = order.ends }

-- domains and pipes are unchanged
pub gone_same : (s t : State) → t.domains ≡ s.domains → t.pipes ≡ s.pipes → AllGone s → AllGone t
gone_same s t domains pipes was = record {
  gone =
      λ d dead. (let e = domain-same s t d domains in e ∙ was.gone d (sym (ap (λ (x : Domain Text). x.live) e) ∙ dead));
  ends = λ p x is. was.ends p x (sym (ap (λ (l : List (Option Pipe)). in_place l p) pipes) ∙ is);
}

-- a domain is replaced by another entry, which is empty if it is not live
gone_domain : (s : State) (d : ℕ) (x : Domain Text) → (x.live ≡ false → x ≡ no_domain) → AllGone s
    → AllGone (with_domain s d x)
unfolding with_domain
gone_domain s d x new was = record {
  gone = λ e dead. elim (domain-with_domain s d e x) [
    | inl both ↦ both.1 ∙ new (sym (ap (λ (z : Domain Text). z.live) both.1) ∙ dead)
    | inr same ↦ same ∙ was.gone e (sym (ap (λ (z : Domain Text). z.live) same) ∙ dead)
  ];
  ends = was.ends;
}

-- a live domain is replaced by another entry that is live
gone_live : (s : State) (d : ℕ) (x : Domain Text) → is_live s d ≡ true → x.live ≡ (domain s d).live → AllGone s
    → AllGone (with_domain s d x)
gone_live s d x live same was = gone_domain s d x (λ dead. absurd (cc (live, same, dead))) was

pub live-with : (s : State) (d e : ℕ) (x : Domain Text) → x.live ≡ (domain s d).live → is_live s e ≡ true
    → is_live (with_domain s d x) e ≡ true
live-with s d e x same live = elim (domain-with_domain s d e x) [
  | inl both ↦ ap (λ (z : Domain Text). z.live) both.1 ∙ (same ∙ (ap (λ n. is_live s n) both.0 ∙ live))
  | inr other ↦ ap (λ (z : Domain Text). z.live) other ∙ live
]

-- a pipe is replaced by one with an open end, or removed
gone_pipe : (s : State) (p : ℕ) (x : Pipe) → AllGone s → AllGone (with_pipe s p x)
unfolding with_pipe
gone_pipe s p x was = record {
  gone =
      λ d dead. (let e = domain-same s (with_pipe s p x) d refl in
      e ∙ was.gone d (sym (ap (λ (z : Domain Text). z.live) e) ∙ dead));
  ends = λ q y is. elim (cases_eq p q) [
    | inr differ ↦ was.ends q y (sym (place-set_other s.pipes p q _ differ) ∙ is)
    | inl same ↦
        by (x.reading || x.writing) refl s.pipes p
        (subst (λ n. in_place (slice_set s.pipes p (if x.reading || x.writing then Some x else None)) n ≡ Some y)
        (sym same) is)
  ];
}
  where
    by : (b : Bool) → (x.reading || x.writing) ≡ b → (xs : List (Option Pipe)) (n : ℕ) {y : Pipe}
        → in_place (slice_set xs n (if b then Some x else None)) n ≡ Some y → (y.reading || y.writing) ≡ true
    by b open_end [] n is = absurd (cc)
    by b open_end (z ∷ xs) (suc n) is = by b open_end xs n is
    by true open_end (z ∷ xs) zero is =
        (let e = ap (λ (o : Option Pipe). (unwrap_or o x).reading || (unwrap_or o x).writing) is in sym e ∙ open_end)
    by false open_end (z ∷ xs) zero is = absurd (cc)

gone_closed_on : (s : State) (o : Option Descriptor) → AllGone s → AllGone (fds.closed_on s o)
gone_closed_on s (Some (on.ReadEnd p)) was = gone_pipe s p _ was
gone_closed_on s (Some (on.WriteEnd p)) was = gone_pipe s p _ was
gone_closed_on s (Some (on.Connection c)) was = gone_same s _ (domains-with_conn s c _) (pipes-with_conn s c _) was
gone_closed_on s o was = was

gone_all_closed : (s : State) (list : List (Option Descriptor)) → AllGone s → AllGone (fold fds.closed_on s list)
gone_all_closed s [] was = was
gone_all_closed s (o ∷ list) was = gone_all_closed (fds.closed_on s o) list (gone_closed_on s o was)

-- whether a change ends a domain, or is of a domain that is not live
abbrev strange : State → Change → Bool
strange s (OnDomain d Ends) = true
strange s (OnDomain d x) = not (is_live s d)
strange s c = false

-- ended domains have nothing, existing pipes have an open end, and live domains stay live
abbrev StaysGone : State → State → Type 0
StaysGone s t = AllGone t × ((d : ℕ) → is_live s d ≡ true → is_live t d ≡ true)

gone_changed : (s t : State) (c : Change) → strange s c ≡ false → StaysGone s t → StaysGone s (changed t c)
unfolding with_conn with_content
gone_changed s t (OnDomain d Ends) un was = absurd (cc)
gone_changed s t (OnDomain d x) un was = (
  gone_live t d _ (was.1 d (not-false (is_live s d) un)) refl was.0,
  λ e lives. live-with t d e _ refl (was.1 e lives),
)
gone_changed s t (OnPipe p x) un was = (
  gone_pipe t p _ was.0,
  λ e lives. ap (λ (z : Domain Text). z.live) (domain-same t _ e (domains-with_pipe t p _))
      ∙ was.1 e lives,
)
gone_changed s t NewDomain un was = (
  record {
    gone = λ d dead. elim (domain-push t new_domain d) [
      | inl same ↦ same ∙ was.0.gone d (sym (ap (λ (z : Domain Text). z.live) same) ∙ dead)
      | inr both ↦ absurd (let e = ap (λ (z : Domain Text). z.live) both.1 in cc (e, dead))
    ];
    ends = was.0.ends;
  },
  λ d lives. elim (domain-push t new_domain d) [
    | inl same ↦ ap (λ (z : Domain Text). z.live) same
        ∙ was.1 d lives
    | inr both ↦ ap (λ (z : Domain Text). z.live) both.1
  ],
)
gone_changed s t NewPipe un was = (
  record {
    gone =
        λ d dead. (let e = domain-same t (changed t NewPipe) d refl in
        e ∙ was.0.gone d (sym (ap (λ (z : Domain Text). z.live) e) ∙ dead));
    ends =
        λ p x is. elim (place-old t.pipes new_pipe p x is) [
          | inl made ↦
              ap (λ (k : Pipe). k.reading || k.writing) made.1
          | inr old ↦ was.0.ends p x old
        ];
  },
  λ d lives. ap (λ (z : Domain Text). z.live) (domain-same t (changed t NewPipe) d refl) ∙ was.1 d lives,
)
gone_changed s t c un was = (
  gone_same t (changed t c) refl refl was.0,
  λ d lives. ap (λ (z : Domain Text). z.live) (domain-same t (changed t c) d refl) ∙ was.1 d lives,
)

strange_unused : (s : State) (by fd : ℕ) (o : Option Descriptor) (act : Act) → not (is_live s by) ≡ false
    → list_any (strange s) (used_as s by fd o act) ≡ false
strange_unused s by fd (Some (on.File f at mode)) (Reads n) dead = both-false _ _ dead refl
strange_unused s by fd (Some (on.File f at mode)) (Writes w) dead = both-false _ _ dead refl
strange_unused s by fd (Some (on.ReadEnd p)) (Writes w) dead = refl
strange_unused s by fd (Some (on.WriteEnd p)) (Writes w) dead = refl
strange_unused s by fd o act dead = refl

-- after a call of a live domain whose own changes end no domain, and change only live ones
gone_left : (s : State) (by : ℕ) (k : Call) → is_live s by ≡ true → AllGone s
    → (is_live s by ≡ true → list_any (strange s) (own s by k) ≡ false) → AllGone (called s by k).after
gone_left s by k live was first =
    let dead = ap (λ b. not b) live in
    (kept_called (StaysGone s) (strange s) (gone_changed s) s by k (λ u. not (is_live s u.by))
    (λ u none. strange_unused s u.by u.fd u.end u.act none) (uses_live k dead) (first live)
    (was, λ d lives. lives)).0
  where
    uses_live : (k : Call) → not (is_live s by) ≡ false → list_any (λ u. not (is_live s u.by)) (uses s by k) ≡ false
    uses_live call.Exit dead = none_closings (λ u. not (is_live s u.by)) by (λ o. dead) (domain s by).fds
    uses_live (call.Close fd) dead = both-false _ _ dead refl
    uses_live (call.IolRead fd n) dead = both-false _ _ dead refl
    uses_live (call.IolWrite fd a) dead = both-false _ _ dead refl
    uses_live (call.Read fd n) dead = both-false _ _ dead refl
    uses_live (call.Write fd bytes) dead = both-false _ _ dead refl
    uses_live k dead = refl

gone_called : (s : State) (by : ℕ) (k : Call) → AllGone s → first (called s by k).refusals ≡ None
    → AllGone (called s by k).after
gone_called s by call.Exit was unrefused =
    gone_domain (fold fds.closed_on s (domain s by).fds) by no_domain (λ dead. refl)
    (gone_all_closed s (domain s by).fds was)
gone_called s by (call.PoolCreate chunks list) was unrefused =
    gone_same s (called s by (call.PoolCreate chunks list)).after refl refl was
gone_called s by (call.PoolAdmit p d) was unrefused = gone_same s (called s by (call.PoolAdmit p d)).after refl refl was
gone_called s by (call.AggGive a to) was unrefused =
    let both = both-live s by to _ unrefused in
    let to_live = both.1 in
    gone_left s by (call.AggGive a to) both.0 was (λ live. grind (arith, common_steps, live, to_live))
gone_called s by (call.GiveFd fd to) was unrefused =
    let both = both-live s by to _ unrefused in
    gone_left s by (call.GiveFd fd to) both.0 was
    (λ live. none_handed (strange s) by fd to (descriptor s by fd) (ap (λ b. not b) both.0)
    (λ x. ap (λ b. not b) both.1))
gone_called s by k was unrefused =
    gone_left s by k (live-first s by _ unrefused) was (λ live. grind (arith, common_steps, live))

pub gone_meant : (s : State) (e : Event) → AllGone s → first (meaning s e).refusals ≡ None → AllGone (meaning s e).after
unfolding with_conn
gone_meant s (event.Call by k) was unrefused = gone_called s by k was unrefused
gone_meant s e was unrefused = gone_same s (meaning s e).after refl refl was
