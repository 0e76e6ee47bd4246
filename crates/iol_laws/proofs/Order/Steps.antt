-- A new state is orderly, and each step preserves this.
use Rattle.std.proofs.Common.{inl, inr, ◌≡◌, ◌≤◌, ◌∙◌, ℕ, List, length, ap, refl, sym, subst, arith, Option, Some, None}
use Rattle.std.proofs.Common.{true, false, Bool}
use Rattle.std.specs.Prelude.{Result, Ok, Err, unwrap_or, not}
use Rattle.iol_core.specs.Text.{Text}
use Rattle.iol_core.specs.NumberedLists.{lookup, in_place}
use Rattle.iol_core.specs.State.{State, Domain, Pool, Pipe, Connection, domain, is_live, descriptor, pool, pipe_at}
use Rattle.iol_core.specs.State.{conn_at, no_pipe, new_state}
use Rattle.iol_core.specs.Meaning.{Step, first}
use Rattle.iol_core.specs.Run.{meaning, StepsTo, outcome}
use Rattle.iol_core.specs.declared.limits.TheConstants.{MAX_LISTED}
use Rattle.iol_core.specs.declared.refusals.Refusal.{Refusal}
use Rattle.iol_core.specs.Calls.Writes.{is_file}
use Rattle.iol_core.specs.declared.descriptors.Descriptor.{Descriptor}
use Rattle.iol_core.specs.declared.descriptors.Descriptor.TheVariants as on
use Rattle.iol_core.specs.declared.events.Event.{Event}
use Rattle.iol_core.specs.declared.events.Reply.{Reply}
use Rattle.iol_core.proofs.Lookups.{domain-new_state}
use Rattle.iol_laws.specs.Order.{IsOpen, IsOrderly, Once, stands}
use Rattle.iol_laws.proofs.Connections.{conn-unmade}
use Rattle.iol_laws.proofs.Order.Ends.{stands-same}
use Rattle.iol_laws.proofs.Order.DomainEnd.{AllGone, gone_meant, gone_of}
use Rattle.iol_laws.proofs.Order.Balance.{balanced_meant}
use Rattle.iol_laws.proofs.Order.Counts.{HasOpen, all_stand_balanced, held_balanced, one_balanced}
use Rattle.iol_laws.proofs.Order.PoolLists.{listed_meant, pool-unmade}
use Rattle.iol_laws.proofs.Order.NumbersToCome.{below_meant}
use Rattle.iol_laws.proofs.Tests.{both-true}
use Rattle.iol_laws.proofs.Order.WaitingConns.{waiting_meant}

pipe-unmade : (s : State) (p : ℕ) → in_place s.pipes p ≡ None → pipe_at s p ≡ no_pipe
unfolding pipe_at
pipe-unmade s p none = ap (λ (o : Option Pipe). unwrap_or o no_pipe) none

-- the domain of an open descriptor is live, because an ended domain has nothing
open-is : (s : State) (y : Descriptor) → AllGone s → HasOpen s y → IsOpen s y
open-is s y gone has = record { by = has.0; fd = has.1; live = lives (is_live s has.0) refl; there = has.2 }
  where
    lives : (b : Bool) → is_live s has.0 ≡ b → is_live s has.0 ≡ true
    lives true is = is
    lives false is = absurd (let e = ap (λ (z : Domain Text). in_place z.fds has.1) (gone.gone has.0 is) in let f =
        has.2 in cc (e, f))

orderly_meant : (s : State) (e : Event) → IsOrderly s → first (meaning s e).refusals ≡ None
    → IsOrderly (meaning s e).after
orderly_meant s e order unrefused =
    let balance = balanced_meant s e order unrefused in
    let q = waiting_meant s e order in
    let below = below_meant s e (λ d. record { below = order.aggs d; once = order.aggs_once d }) in
    let gone = gone_meant s e (gone_of s order) unrefused in
    record {
      one = one_balanced (meaning s e).after balance;
      all_stand = all_stand_balanced (meaning s e).after balance;
      held = λ x end is. open-is (meaning s e).after x gone (held_balanced (meaning s e).after balance x end is);
      ends = gone.ends;
      listed = listed_meant s e order.listed unrefused;
      gone = gone.gone;
      waits = q.waits;
      silent = q.silent;
      once = q.once;
      conns = q.conns;
      aggs_once = λ d. (below d).once;
      aggs = λ d. (below d).below;
    }

orderly_outcome : (s t : State) (e : Event) (r : Result Reply Refusal) → IsOrderly s → Step (meaning s e) s r t
    → IsOrderly t
orderly_outcome s t e (Ok a) order step =
    subst (λ (u : State). IsOrderly u) (sym step.2) (orderly_meant s e order step.0)
orderly_outcome s t e (Err x) order step = subst (λ (u : State). IsOrderly u) (sym step.1) order

pub orderly_step : (s t : State) (e : Event) (r : Reply) → IsOrderly s → StepsTo s e r t → IsOrderly t
orderly_step s t e r order step = orderly_outcome s t e (outcome r) order step

pub orderly_new : (slots : List (List ℕ)) → IsOrderly (new_state slots)
orderly_new slots = record {
  one = λ d e f g x end is_d is_e. absurd (none d f x is_d);
  all_stand = λ d f x is. absurd (none d f x is);
  held = λ x end is. absurd (nothing x end is);
  ends = λ p x is. absurd (cc);
  listed = λ p. subst (λ (x : Pool). length x.domains ≤ MAX_LISTED) (sym (pool-unmade (new_state slots) p refl))
      (omega arith);
  gone = λ d dead. elim (domain-new_state slots d) [
    | inl is ↦ absurd (let e = ap (λ (x : Domain Text). x.live) is in cc (e, dead))
    | inr is ↦ is
  ];
  waits = λ c is. absurd (let e = ap (λ (k : Connection). k.accepted) (conn-unmade (new_state slots) c refl) in
      cc (e, is));
  silent = λ c is. absurd (let e = ap (λ (k : Connection). k.accepted) (conn-unmade (new_state slots) c refl) in
      cc (e, is));
  once = tt;
  conns = λ c more. refl;
  aggs_once = λ d. elim (domain-new_state slots d) [
    | inl is ↦ subst (λ (x : Domain Text). Once x.aggs) (sym is) tt
    | inr is ↦ subst (λ (x : Domain Text). Once x.aggs) (sym is) tt
  ];
  aggs = λ d a more. elim (domain-new_state slots d) [
    | inl is ↦ ap (λ (x : Domain Text). lookup x.aggs a) is
    | inr is ↦ ap (λ (x : Domain Text). lookup x.aggs a) is
  ];
}
  where
    none : (d f : ℕ) (x : Descriptor) → descriptor (new_state slots) d f ≡ Some x → ⊥
    none d f x is = elim (domain-new_state slots d) [
      | inl new ↦ (let e = ap (λ (y : Domain Text). in_place y.fds f) new in cc (e, is))
      | inr old ↦ (let e = ap (λ (y : Domain Text). in_place y.fds f) old in cc (e, is))
    ]

    nothing : (x : Descriptor) → is_file (Some x) ≡ false → stands (new_state slots) x ≡ true → ⊥
    nothing (on.File f at mode) end is = cc
    nothing (on.ReadEnd p) end is = (let e = ap (λ (k : Pipe). k.reading) (pipe-unmade (new_state slots) p refl) in
        cc (e, is))
    nothing (on.WriteEnd p) end is = (let e = ap (λ (k : Pipe). k.writing) (pipe-unmade (new_state slots) p refl) in
        cc (e, is))
    nothing (on.Connection c) end is =
        (let e = ap (λ (k : Connection). k.closed) (conn-unmade (new_state slots) c refl) in let f =
        both-true (conn_at (new_state slots) c).accepted (not (conn_at (new_state slots) c).closed) is in let g = f.1 in
        cc (e, g))

-- an orderly state is orderly with any contents of its slots
pub orderly-slots : (s : State) (slots : List (List ℕ)) → IsOrderly s → IsOrderly (record s { slots = slots })
unfolding domain pool pipe_at conn_at
orderly-slots s slots order = record {
  one = order.one;
  all_stand = λ d f x is. stands-same s (record s { slots = slots }) x refl refl ∙ order.all_stand d f x is;
  held = λ x end is. (let it = order.held x end (sym (stands-same s (record s { slots = slots }) x refl refl) ∙ is) in
      record { by = it.by; fd = it.fd; live = it.live; there = it.there });
  ends = order.ends;
  listed = order.listed;
  gone = order.gone;
  waits = order.waits;
  silent = order.silent;
  once = order.once;
  conns = order.conns;
  aggs_once = order.aggs_once;
  aggs = order.aggs;
}
