-- Invariants of each domain's aggregates and of its next number, preserved by each event.
use Rattle.std.proofs.Common.{inl, inr, ◌≡◌, ℕ, ◌+◌, List, [], ◌∷◌, ◌++◌, length, take, drop, refl, sym, subst, arith}
use Rattle.std.proofs.Common.{Option, Some, append_assoc, true, false, Bool}
use Rattle.std.specs.List.{list_any}
use Rattle.iol_core.specs.Text.{Text, labelled, part}
use Rattle.iol_core.specs.NumberedLists.{without}
use Rattle.iol_core.specs.State.{State, Domain, domain, text, descriptor, new_domain, no_domain, with_domain}
use Rattle.iol_core.specs.State.{with_content}
use Rattle.iol_core.specs.Run.{called, meaning}
use Rattle.iol_core.specs.Calls.Aggregates as aggs
use Rattle.iol_core.specs.Calls.Descriptors as fds
use Rattle.iol_core.specs.Calls.Reads as reading
use Rattle.iol_core.specs.declared.descriptors.Descriptor.{Descriptor}
use Rattle.iol_core.specs.declared.descriptors.Descriptor.TheVariants as on
use Rattle.iol_core.specs.declared.events.Call.{Call}
use Rattle.iol_core.specs.declared.events.Call.TheVariants as call
use Rattle.iol_core.specs.declared.events.Event.{Event}
use Rattle.iol_core.specs.declared.events.Event.TheVariants as event
use Rattle.iol_core.proofs.Lookups.{domain-with_domain, domain-same, domain-push}
use Rattle.iol_laws.proofs.Changes.{Act, Change, OnDomain, OnPipe, OnConn, NewDomain, Ends, Adds, Drops, Reads, Writes}
use Rattle.iol_laws.proofs.Changes.{changed, kept_called, none_at_all, none_handed, own, used_as, uses}
use Rattle.iol_laws.proofs.Gives.{agg_given}
use Rattle.iol_laws.proofs.Domains.{domains-with_conn, domains-with_pipe, kept-read_on}
use Rattle.iol_laws.proofs.Tests.{same-number}

-- P holds for no aggregates, for one more under the next number if Q holds for it, and for one fewer.
pub record IsOfAggs (P : (d : ℕ) → List (ℕ × Text) → (next : ℕ) → Type 0) (Q : (d n : ℕ) → Text → Type 0) : Type 0 where
  pub none : (d n : ℕ) → P d [] n
  pub added : (d n : ℕ) (kept : List (ℕ × Text)) (t : Text) → Q d n t → P d kept n → P d (kept ++ (n, t) ∷ []) (n + 1)
  pub gone : (d n : ℕ) (kept : List (ℕ × Text)) (a : ℕ) → P d kept n → P d (without kept a) n

-- the condition Q for each aggregate that a call creates, with its domain and number
abbrev pub Brings : (Q : (d n : ℕ) → Text → Type 0) → State → (by : ℕ) → Call → Type 0
Brings Q s by (call.AggMake bytes) = Q by (aggs.next_agg s by) (labelled (aggs.default_pool s by) bytes)
Brings Q s by (call.AggDup a) = Q by (aggs.next_agg s by) (text s by a)
Brings Q s by (call.AggCut a from to) = Q by (aggs.next_agg s by) (part (text s by a) from to)
Brings Q s by (call.AggSplit a at) = Q by (aggs.next_agg s by) (take at (text s by a))
    × Q by (aggs.next_agg s by + 1) (drop at (text s by a))
Brings Q s by (call.AggJoin a b) = Q by (aggs.next_agg s by) (text s by a ++ text s by b)
Brings Q s by (call.AggReplace a from to b) =
    Q by (aggs.next_agg s by) (take from (text s by a) ++ text s by b ++ drop to (text s by a))
Brings Q s by (call.AggGive a to) = Q to (aggs.next_agg s to) (text s by a)
Brings Q s by (call.IolRead fd n) = Q by (aggs.next_agg s by) (reading.read_text s by (descriptor s by fd) n)
Brings Q s by k = Unit {0}

abbrev pub BringsIn : (Q : (d n : ℕ) → Text → Type 0) → State → Event → Type 0
BringsIn Q s (event.Call by k) = Brings Q s by k
BringsIn Q s e = Unit {0}

-- whether a change adds an aggregate
abbrev adds_agg : Change → Bool
adds_agg (OnDomain d (Adds t)) = true
adds_agg c = false

none_added : (s : State) (by fd : ℕ) (o : Option Descriptor) (act : Act)
    → list_any adds_agg (used_as s by fd o act) ≡ false
none_added s by fd (Some (on.File f at mode)) (Reads n) = refl
none_added s by fd o (Writes w) = none_written o
  where
    none_written : (o : Option Descriptor) → list_any adds_agg (used_as s by fd o (Writes w)) ≡ false
    none_written (Some (on.File f at mode)) = refl
    none_written o = refl
none_added s by fd o act = refl

module _ (P : (d : ℕ) → List (ℕ × Text) → (next : ℕ) → Type 0) (Q : (d n : ℕ) → Text → Type 0) (is : IsOfAggs P Q) where
  abbrev pub OfEach : State → Type 0
  OfEach s = (d : ℕ) → P d (domain s d).aggs (domain s d).next_agg

  of_same : (s t : State) → t.domains ≡ s.domains → OfEach s → OfEach t
  of_same s t same all d = subst (λ (x : Domain Text). P d x.aggs x.next_agg) (sym (domain-same s t d same)) (all d)

  of_domain : (s : State) (by : ℕ) (y : Domain Text) → P by y.aggs y.next_agg → OfEach s → OfEach (with_domain s by y)
  of_domain s by y new all d = elim (domain-with_domain s by d y) [
    | inl both ↦
        subst (λ (x : Domain Text). P d x.aggs x.next_agg) (sym both.1) (subst (λ k. P k y.aggs y.next_agg) both.0 new)
    | inr same ↦ subst (λ (x : Domain Text). P d x.aggs x.next_agg) (sym same) (all d)
  ]

  of_fds : (s : State) (by : ℕ) (xs : List (Option Descriptor)) → OfEach s → OfEach (fds.with_fds s by xs)
  of_fds s by xs all = of_domain s by (record (domain s by) { fds = xs }) (all by) all

  of_new : (s : State) (by : ℕ) (kept : List (ℕ × Text)) (t : Text) → Q by (aggs.next_agg s by) t
      → P by kept (aggs.next_agg s by) → OfEach s → OfEach (aggs.with_new s by kept t)
  of_new s by kept t brings left all = of_domain s by _ (is.added by (aggs.next_agg s by) kept t brings left) all

  of_agg : (s : State) (by : ℕ) (t : Text) → Q by (aggs.next_agg s by) t → OfEach s → OfEach (aggs.with_agg s by t)
  of_agg s by t brings all = of_new s by (domain s by).aggs t brings (all by) all

  of_left : (s : State) (by a : ℕ) → OfEach s → P by (without (domain s by).aggs a) (aggs.next_agg s by)
  of_left s by a all = is.gone by (aggs.next_agg s by) (domain s by).aggs a (all by)

  of_without : (s : State) (by a : ℕ) → OfEach s → OfEach (aggs.without_agg s by a)
  of_without s by a all = of_domain s by _ (of_left s by a all) all

  of_split : (s : State) (by a at : ℕ) → Brings Q s by (call.AggSplit a at) → OfEach s
      → OfEach (aggs.agg_split s by a at).after
  of_split s by a at brings all = of_domain s by _ two all
    where
      n : ℕ
      n = aggs.next_agg s by

      kept : List (ℕ × Text)
      kept = without (domain s by).aggs a

      front : Text
      front = take at (text s by a)

      back : Text
      back = drop at (text s by a)

      two : P by (kept ++ (n, front) ∷ (n + 1, back) ∷ []) (n + 2)
      two =
          let both =
          is.added by (n + 1) (kept ++ (n, front) ∷ []) back brings.1
          (is.added by n kept front brings.0 (of_left s by a all)) in
          let next : n + 1 + 1 ≡ n + 2 = omega arith in
          subst (λ m. P by (kept ++ (n, front) ∷ (n + 1, back) ∷ []) m) next
          (subst (λ (l : List (ℕ × Text)). P by l (n + 1 + 1))
          (append_assoc kept ((n, front) ∷ []) ((n + 1, back) ∷ [])) both)

  of_give : (s : State) (by a to : ℕ) → Brings Q s by (call.AggGive a to) → OfEach s
      → OfEach (aggs.agg_give s by a to).after
  of_give s by a to brings all =
      agg_given OfEach s by a to
      (λ same. of_new s by (without (domain s by).aggs a) (text s by a)
      (subst (λ k. Q k (aggs.next_agg s k) (text s by a)) (sym (same-number by to same)) brings)
      (of_left s by a all) all)
      (λ other. of_without (aggs.with_agg s to (text s by a)) by a (of_agg s to (text s by a) brings all))

  of_read_on : (s : State) (by fd : ℕ) (o : Option Descriptor) (n : ℕ) → OfEach s → OfEach (reading.read_on s by fd o n)
  of_read_on s by fd (Some (on.File f at mode)) n all = of_fds s by _ all
  of_read_on s by fd (Some (on.ReadEnd p)) n all = of_same s _ (domains-with_pipe s p _) all
  of_read_on s by fd (Some (on.Connection c)) n all = of_same s _ (domains-with_conn s c _) all
  of_read_on s by fd o n all = all

  of_iol_read : (s : State) (by fd n : ℕ) → Brings Q s by (call.IolRead fd n) → OfEach s
      → OfEach (reading.iol_read s by fd n).after
  of_iol_read s by fd n brings all =
      let o : Option Descriptor = descriptor s by fd in
      let w : Text = reading.read_text s by o n in
      of_agg (reading.read_on s by fd o (length w)) by w
      (subst (λ k. Q by k w) (sym (kept-read_on (λ y. y.next_agg) (λ y xs. refl) s by fd o (length w))) brings)
      (of_read_on s by fd o (length w) all)

  of_changed : (s : State) (c : Change) → adds_agg c ≡ false → OfEach s → OfEach (changed s c)
  unfolding with_content
  of_changed s (OnDomain d Ends) un all = of_domain s d no_domain (is.none d 1) all
  of_changed s (OnDomain d (Adds t)) un all = absurd (cc)
  of_changed s (OnDomain d (Drops a)) un all = of_without s d a all
  of_changed s (OnDomain d x) un all = of_domain s d _ (all d) all
  of_changed s (OnPipe p x) un all = of_same s _ (domains-with_pipe s p _) all
  of_changed s (OnConn c x) un all = of_same s _ (domains-with_conn s c _) all
  of_changed s NewDomain un all = λ d. elim (domain-push s new_domain d) [
    | inl same ↦ subst (λ (x : Domain Text). P d x.aggs x.next_agg) (sym same) (all d)
    | inr both ↦ subst (λ (x : Domain Text). P d x.aggs x.next_agg) (sym both.1) (is.none d 1)
  ]
  of_changed s c un all = of_same s (changed s c) refl all

  -- after a call that makes no aggregate
  of_left_call : (s : State) (by : ℕ) (k : Call) → list_any adds_agg (own s by k) ≡ false → OfEach s
      → OfEach (called s by k).after
  of_left_call s by k first all =
      kept_called OfEach adds_agg of_changed s by k (λ u. false) (λ u none. none_added s u.by u.fd u.end u.act)
      (none_at_all (uses s by k)) first all

  of_called : (s : State) (by : ℕ) (k : Call) → Brings Q s by k → OfEach s → OfEach (called s by k).after
  of_called s by (call.AggMake bytes) brings all = of_agg s by _ brings all
  of_called s by (call.AggDup a) brings all = of_agg s by _ brings all
  of_called s by (call.AggCut a from to) brings all = of_agg s by _ brings all
  of_called s by (call.AggSplit a at) brings all = of_split s by a at brings all
  of_called s by (call.AggJoin a b) brings all =
      of_new s by (without (without (domain s by).aggs a) b) _ brings
      (is.gone by (aggs.next_agg s by) (without (domain s by).aggs a) b (of_left s by a all)) all
  of_called s by (call.AggReplace a from to b) brings all = of_agg s by _ brings all
  of_called s by (call.AggGive a to) brings all = of_give s by a to brings all
  of_called s by (call.GiveFd fd to) brings all =
      of_left_call s by (call.GiveFd fd to) (none_handed adds_agg by fd to (descriptor s by fd) refl (λ x. refl)) all
  of_called s by (call.IolRead fd n) brings all = of_iol_read s by fd n brings all
  of_called s by k brings all = of_left_call s by k refl all

  pub of_meant : (s : State) (e : Event) → BringsIn Q s e → OfEach s → OfEach (meaning s e).after
  of_meant s (event.Call by k) brings all = of_called s by k brings all
  of_meant s (event.ConnNew p) brings all = of_same s (meaning s (event.ConnNew p)).after refl all
  of_meant s (event.Arrive c bytes) brings all = of_same s _ (domains-with_conn s c _) all
  of_meant s (event.PeerClosed c how) brings all = of_same s _ (domains-with_conn s c _) all
  of_meant s (event.Transmit c max) brings all = of_same s _ (domains-with_conn s c _) all
  of_meant s e brings all = all
