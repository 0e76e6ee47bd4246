-- An aggregate is in the pools of its source.
use Rattle.std.proofs.Common.{zero, suc, ◌≡◌, ℕ, ◌+◌, ◌==◌, List, [], ◌∷◌, ◌++◌, length, take, drop, ap, ◌∙◌, refl, sym}
use Rattle.std.proofs.Common.{subst, arith, Option, Some, None, true, false, Bool, append_assoc, ◌-◌}
use Rattle.std.specs.Prelude.{unwrap_or, option_map, if◌then◌else◌, ◌&&◌, ◌||◌}
use Rattle.iol_core.specs.Text.{Text, bytes_of, labelled, admitted}
use Rattle.iol_core.specs.NumberedLists.{lookup, without}
use Rattle.iol_core.specs.State.{State, Domain, domain, is_live, aggregate, text, descriptor, file, content, may_read}
use Rattle.iol_core.specs.State.{pipe_at, conn_at}
use Rattle.iol_core.specs.Run.{StepsTo}
use Rattle.iol_core.specs.Values.{gives_up}
use Rattle.iol_core.specs.Calls.Aggregates as aggs
use Rattle.iol_core.specs.Calls.Reads as reading
use Rattle.iol_core.specs.declared.descriptors.Descriptor.{Descriptor}
use Rattle.iol_core.specs.declared.descriptors.Descriptor.TheVariants as on
use Rattle.iol_core.specs.declared.events.Call.{Call}
use Rattle.iol_core.specs.declared.events.Call.TheVariants as call
use Rattle.iol_core.specs.declared.events.Event.{Event}
use Rattle.iol_core.specs.declared.events.Event.TheVariants as event
use Rattle.iol_core.specs.declared.events.Reply.{Reply}
use Rattle.iol_core.specs.declared.events.Reply.TheVariants as reply
use Rattle.iol_core.proofs.TestedLists.{list_all-both, list_all-drop, list_all-labelled, list_all-take}
use Rattle.iol_core.proofs.Values.{values_step}
use Rattle.iol_laws.specs.Order.{IsOrderly}
use Rattle.iol_laws.specs.Aggregates.{brings, is_refusal}
use Rattle.iol_laws.specs.Caller.{readable_at, gives_away}
use Rattle.iol_laws.specs.Sources.{lie_in, read_from, taken_from}
use Rattle.iol_laws.proofs.Caller.Aggregates.{first_agg, second_agg, two-found}
use Rattle.iol_laws.proofs.ComeAndGo.{none_step, gone_step}
use Rattle.iol_laws.proofs.Domains.{domain-with_other, domain-with_same, live-first, both-live, kept-read_on}
use Rattle.iol_laws.proofs.Numbers.{new_agg, number}
use Rattle.iol_laws.proofs.Places.{lookup-without_none}
use Rattle.iol_laws.proofs.Tests.{apart, both-true, same-number}
use Rattle.iol_laws.proofs.Texts.{admitted-rest}

-- a refusal changes nothing
refused-same : (s t : State) (e : Event) (r : Reply) → StepsTo s e r t → is_refusal r ≡ true → t ≡ s
refused-same s t e (reply.Refused x) step is = step.1
refused-same s t e r step is = absurd (cc)

-- each part of an empty list is empty
nothing : (n at : ℕ) → take n (drop {A = ℕ} at []) ≡ []
nothing zero zero = refl
nothing zero (suc at) = refl
nothing (suc n) zero = refl
nothing (suc n) (suc at) = refl

module _ (pools : ℕ → Bool) where
  abbrev pub Lie : Text → Type 0
  Lie t = lie_in pools t ≡ true

  -- the text of an aggregate that is found
  lie-found : (s : State) (d a : ℕ) (x : Text) → aggregate s d a ≡ Some x → Lie x → Lie (text s d a)
  lie-found s d a x is lies = subst (λ (o : Option Text). Lie (unwrap_or o [])) (sym is) lies

  lie-made : (s t : State) (d n a : ℕ) (kept : List (ℕ × Text)) (x : Text) → is_live s d ≡ true
      → lookup kept (aggs.next_agg s d) ≡ None → n ≡ aggs.next_agg s d → t ≡ aggs.with_new s d kept x → (n == a) ≡ true
      → Lie x → Lie (text t d a)
  lie-made s t d n a kept x live none n_is same is lies =
      let next : a ≡ aggs.next_agg s d = sym (same-number n a is) ∙ n_is in
      lie-found t d a x (ap (λ k. aggregate t d k) next
      ∙ (ap (λ u. aggregate u d (aggs.next_agg s d)) same ∙ new_agg s d kept x live none)) lies

  lie-added : (s t : State) (d n a : ℕ) (x : Text) → IsOrderly s → is_live s d ≡ true → n ≡ aggs.next_agg s d
      → t ≡ aggs.with_agg s d x → (n == a) ≡ true → Lie x → Lie (text t d a)
  lie-added s t d n a x order live n_is same is lies =
      lie-made s t d n a (domain s d).aggs x live (order.aggs d (aggs.next_agg s d) (omega arith)) n_is same is lies

  -- a part of a text in these pools is in them
  lie-front : (x y : Text) → Lie (x ++ y) → Lie x
  lie-front [] y lies = refl
  lie-front (b ∷ x) y lies = (let two = both-true (pools b.1) (lie_in pools (x ++ y)) lies in let front =
      lie-front x y two.1 in grind (arith, two.0, front))

  lie-back : (x y : Text) → Lie (x ++ y) → Lie y
  lie-back [] y lies = lies
  lie-back (b ∷ x) y lies = lie-back x y (both-true (pools b.1) (lie_in pools (x ++ y)) lies).1

  pub lie-taken : (n : ℕ) (x : Text) → Lie x → Lie (take n x)
  lie-taken n x lies = list_all-take (λ b. pools b.1) n x lies

  pub lie-dropped : (n : ℕ) (x : Text) → Lie x → Lie (drop n x)
  lie-dropped n x lies = list_all-drop (λ b. pools b.1) n x lies

  pub lie-both : (x y : Text) → Lie x → Lie y → Lie (x ++ y)
  lie-both x y one two = list_all-both (λ b. pools b.1) x y one two

  pub lie-fresh : (p : ℕ) (bytes : List ℕ) → pools p ≡ true → Lie (labelled p bytes)
  lie-fresh p bytes is = list_all-labelled pools p bytes is

  -- the prefix that a domain may read
  lie-admitted : (may : ℕ → Bool) (n : ℕ) (x : Text) → Lie x → Lie (admitted may (take n x))
  lie-admitted may n x lies =
      (let front : Text = admitted may (take n x) in
      lie-front front (drop (length front) x) (subst (λ (l : Text). Lie l) (admitted-rest may n x) lies))

  pub lie-labelled : (p : ℕ) (n at : ℕ) (bytes : List ℕ) → Lie (labelled p bytes)
      → Lie (labelled p (take n (drop at bytes)))
  lie-labelled p n at [] lies = subst (λ (l : List ℕ). Lie (labelled p l)) (sym (nothing n at)) refl
  lie-labelled p n at (b ∷ bytes) lies =
      lie-fresh p (take n (drop at (b ∷ bytes))) (both-true (pools p) (lie_in pools (labelled p bytes)) lies).0

  -- the text that a read returns
  lie-read : (s : State) (by : ℕ) (o : Option Descriptor) (n : ℕ) → Lie (read_from s o)
      → Lie (reading.read_text s by o n)
  lie-read s by (Some (on.File f at mode)) n lies = lie-labelled (file s f).pool n at (content s f) lies
  lie-read s by (Some (on.ReadEnd p)) n lies = lie-admitted (may_read s by) n (pipe_at s p).queue lies
  lie-read s by (Some (on.Connection c)) n lies = lie-admitted (may_read s by) n (conn_at s c).incoming lies
  lie-read s by o n lies = lie-admitted (may_read s by) n [] refl

  lie-split : (s t : State) (d a at : ℕ) (n m b : ℕ) → IsOrderly s
      → StepsTo s (event.Call d (call.AggSplit a at)) (reply.Aggs n m) t → ((n == b) || (m == b)) ≡ true
      → Lie (text s d a) → Lie (text t d b)
  lie-split s t d a at n m b order step is lies = by (n == b) refl
    where
      next : ℕ
      next = aggs.next_agg s d

      kept : List (ℕ × Text)
      kept = without (domain s d).aggs a

      list : List (ℕ × Text)
      list = kept ++ (next, take at (text s d a)) ∷ (next + 1, drop at (text s d a)) ∷ []

      found : (lookup list next ≡ Some (take at (text s d a))) × (lookup list (next + 1) ≡ Some (drop at (text s d a)))
      found =
          two-found kept next (take at (text s d a)) (drop at (text s d a))
          (λ k more. lookup-without_none (domain s d).aggs a k (order.aggs d k more))

      dom : domain t d ≡ record (domain s d) { aggs = list; next_agg = next + 2 }
      dom = ap (λ u. domain u d) step.2
          ∙ domain-with_same s d (record (domain s d) { aggs = list; next_agg = next + 2 }) (live-first s d _ step.0)

      first : b ≡ next → Lie (text t d b)
      first b_is =
          lie-found t d b (take at (text s d a)) (ap (λ k. aggregate t d k) b_is
          ∙ (ap (λ (y : Domain Text). lookup y.aggs next) dom ∙ found.0)) (lie-taken at (text s d a) lies)

      second : b ≡ next + 1 → Lie (text t d b)
      second b_is =
          lie-found t d b (drop at (text s d a)) (ap (λ k. aggregate t d k) b_is
          ∙ (ap (λ (y : Domain Text). lookup y.aggs (next + 1)) dom ∙ found.1)) (lie-dropped at (text s d a) lies)

      by : (c : Bool) → (n == b) ≡ c → Lie (text t d b)
      by true one = first (sym (same-number n b one) ∙ ap first_agg step.1)
      by false other =
          (let two : (m == b) ≡ true = grind (arith, other, is) in
          second (sym (same-number m b two) ∙ ap second_agg step.1))

  -- an aggregate that is given, to the giver itself or to another domain
  lie-given : (s t : State) (d a to n b : ℕ) → IsOrderly s
      → StepsTo s (event.Call d (call.AggGive a to)) (reply.Agg n) t → (n == b) ≡ true → Lie (text s d a)
      → Lie (text t to b)
  lie-given s t d a to n b order step is lies = by (d == to) refl step.2
    where
      live : (is_live s d ≡ true) × (is_live s to ≡ true)
      live = both-live s d to _ step.0

      n_is : n ≡ aggs.next_agg s to
      n_is = ap number step.1

      by : (c : Bool) → (d == to) ≡ c
          → t
          ≡ (if c then aggs.with_new s d (without (domain s d).aggs a) (text s d a) else aggs.without_agg
          (aggs.with_agg s to (text s d a)) d a) → Lie (text t to b)
      by true one same =
          let to_is : d ≡ to = same-number d to one in
          let gone =
          lookup-without_none (domain s d).aggs a (aggs.next_agg s d)
          (order.aggs d (aggs.next_agg s d) (omega arith)) in
          subst (λ k. Lie (text t k b)) to_is
          (lie-made s t d n b (without (domain s d).aggs a) (text s d a) live.0 gone (n_is
          ∙ ap (λ k. aggs.next_agg s k) (sym to_is)) same is lies)
      by false other same =
          let v : State = aggs.with_agg s to (text s d a) in
          let at : text t to b ≡ text v to b = ap (λ u. text u to b) same
          ∙ ap (λ (y : Domain Text). unwrap_or (lookup y.aggs b) [])
          (domain-with_other v d to (record (domain v d) { aggs = without (domain v d).aggs a })
          (apart d to other)) in
          subst (λ (l : Text). Lie l) (sym at) (lie-added s v to n b (text s d a) order live.1 n_is refl is lies)

  lie-iol_read : (s t : State) (d f n b a : ℕ) → IsOrderly s
      → StepsTo s (event.Call d (call.IolRead f n)) (reply.Agg b) t → (b == a) ≡ true
      → Lie (read_from s (descriptor s d f)) → Lie (text t d a)
  lie-iol_read s t d f n b a order step is lies =
      let o : Option Descriptor = descriptor s d f in
      let tx : Text = reading.read_text s d o n in
      let next = kept-read_on (λ y. y.next_agg) (λ y xs. refl) s d f o (length tx) in
      let live = kept-read_on (λ y. y.live) (λ y xs. refl) s d f o (length tx) ∙ live-first s d _ step.0 in
      let mid : State = reading.read_on s d f o (length tx) in
      let none : lookup (domain mid d).aggs (domain mid d).next_agg ≡ None =
      ap (λ (l : List (ℕ × Text)). lookup l (domain mid d).next_agg)
      (kept-read_on (λ y. y.aggs) (λ y xs. refl) s d f o (length tx))
      ∙ (ap (λ k. lookup (domain s d).aggs k) next ∙ order.aggs d (aggs.next_agg s d) (omega arith)) in
      lie-made mid t d b a (domain mid d).aggs tx live none (ap number step.1 ∙ sym next) step.2 is
      (lie-read s d o n lies)

  -- an aggregate that a call creates for its caller
  lie-brought : (s t : State) (d : ℕ) (k : Call) (n a : ℕ) → IsOrderly s → StepsTo s (event.Call d k) (reply.Agg n) t
      → gives_away k ≡ false → (n == a) ≡ true → Lie (taken_from s (event.Call d k)) → Lie (text t d a)
  lie-brought s t d (call.AggMake bytes) n a order step own is lies =
      lie-added s t d n a _ order (live-first s d _ step.0) (ap number step.1) step.2 is lies
  lie-brought s t d (call.AggDup x) n a order step own is lies =
      lie-added s t d n a _ order (live-first s d _ step.0) (ap number step.1) step.2 is lies
  lie-brought s t d (call.AggCut x from to) n a order step own is lies =
      lie-added s t d n a _ order (live-first s d _ step.0) (ap number step.1) step.2 is
      (lie-taken (to - from) (drop from (text s d x)) (lie-dropped from (text s d x) lies))
  lie-brought s t d (call.AggJoin x y) n a order step own is lies =
      let none =
      lookup-without_none (without (domain s d).aggs x) y (aggs.next_agg s d)
      (lookup-without_none (domain s d).aggs x (aggs.next_agg s d)
      (order.aggs d (aggs.next_agg s d) (omega arith))) in
      lie-made s t d n a (without (without (domain s d).aggs x) y) _ (live-first s d _ step.0) none (ap number step.1)
      step.2 is lies
  lie-brought s t d (call.AggReplace x from to y) n a order step own is lies =
      let one = lie-front (text s d x) (text s d y) lies in
      let two = lie-back (text s d x) (text s d y) lies in
      let all = lie-both (take from (text s d x)) (text s d y ++ drop to (text s d x)) (lie-taken from (text s d x) one)
      (lie-both (text s d y) (drop to (text s d x)) two (lie-dropped to (text s d x) one)) in
      lie-added s t d n a _ order (live-first s d _ step.0) (ap number step.1) step.2 is
      (subst (λ (l : Text). Lie l) (sym (append_assoc (take from (text s d x)) (text s d y) (drop to (text s d x))))
      all)
  lie-brought s t d (call.IolRead f m) n a order step own is lies = lie-iol_read s t d f m n a order step is lies
  lie-brought s t d (call.AggGive x to) n a order step own is lies = absurd (cc)
  lie-brought s t d (call.GiveFd f to) n a order step own is lies = absurd (cc)
  lie-brought s t d k n a order step own is lies = (let e = step.1 in absurd (cc))

  brings-both : (by d n a : ℕ) → ((by == d) && (n == a)) ≡ true → (by ≡ d) × ((n == a) ≡ true)
  brings-both by d n a is = (let two = both-true (by == d) (n == a) is in (same-number by d two.0, two.1))

  -- an aggregate that an event creates, for any domain
  lie-new : (s t : State) (e : Event) (r : Reply) (d a : ℕ) → IsOrderly s → StepsTo s e r t → brings e r d a ≡ true
      → Lie (taken_from s e) → Lie (text t d a)
  lie-new s t (event.Call by (call.AggGive x to)) (reply.Agg n) d a order step is lies =
      let two = brings-both to d n a is in
      subst (λ k. Lie (text t k a)) two.0 (lie-given s t by x to n a order step two.1 lies)
  lie-new s t (event.Call by (call.GiveFd f to)) (reply.Agg n) d a order step is lies = (let e = step.1 in absurd (cc))
  lie-new s t (event.Call by k) (reply.Agg n) d a order step is lies =
      let two = brings-both by d n a is in
      subst (λ j. Lie (text t j a)) two.0 (lie-brought s t by k n a order step refl two.1 lies)
  lie-new s t (event.Call by (call.AggSplit x at)) (reply.Aggs n m) d a order step is lies =
      let two = both-true (by == d) ((n == a) || (m == a)) is in
      subst (λ k. Lie (text t k a)) (same-number by d two.0) (lie-split s t by x at n m a order step two.1 lies)
  lie-new s t (event.Call by k) (reply.Aggs n m) d a order step is lies = (let e = step.1 in absurd (cc))
  lie-new s t e r d a order step is lies = absurd (cc)

  lie-unlent : (s : State) (d a : ℕ) → readable_at s d a ≡ None → Lie (text s d a)
  lie-unlent s d a none = by (aggregate s d a) refl
    where
      by : (o : Option Text) → aggregate s d a ≡ o → Lie (text s d a)
      by None is = subst (λ (o : Option Text). Lie (unwrap_or o [])) (sym is) refl
      by (Some x) is = (let e = ap (λ (o : Option Text). option_map bytes_of o) is in absurd (cc (e, none)))

  -- an aggregate that existed before is unchanged, or it was removed
  lie-old : (s t : State) (e : Event) (r : Reply) (d a : ℕ) → IsOrderly s → StepsTo s e r t → brings e r d a ≡ false
      → Lie (text s d a) → Lie (text t d a)
  lie-old s t e r d a order step un lies = by (aggregate s d a) refl (gives_up e d a) refl (is_refusal r) refl
    where
      by : (o : Option Text) → aggregate s d a ≡ o → (g : Bool) → gives_up e d a ≡ g → (f : Bool) → is_refusal r ≡ f
          → Lie (text t d a)
      by None none g g_is f f_is =
          lie-unlent t d a (none_step s t e r d a step (ap (λ (o : Option Text). option_map bytes_of o) none) un)
      by (Some x) is false kept f f_is =
          lie-found t d a x ((values_step s t e r step).each d a x is kept)
          (subst (λ (o : Option Text). Lie (unwrap_or o [])) is lies)
      by (Some x) is true gives false answered = lie-unlent t d a (gone_step s t e r d a order step gives answered)
      by (Some x) is true gives true refused =
          subst (λ u. Lie (text u d a)) (sym (refused-same s t e r step refused)) lies

  pub lie_step : (s t : State) (e : Event) (r : Reply) (d a : ℕ) → IsOrderly s → StepsTo s e r t
      → (brings e r d a ≡ true → Lie (taken_from s e)) → (brings e r d a ≡ false → Lie (text s d a)) → Lie (text t d a)
  lie_step s t e r d a order step from lies = by (brings e r d a) refl
    where
      by : (b : Bool) → brings e r d a ≡ b → Lie (text t d a)
      by true is = lie-new s t e r d a order step is (from is)
      by false un = lie-old s t e r d a order step un (lies un)
