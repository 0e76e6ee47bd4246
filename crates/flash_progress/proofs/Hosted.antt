-- A site of files becomes idle, from its new world.
use Rattle.std.proofs.Common.{inl, inr, ◌≡◌, ◌⊎◌, ℕ, List, [], ◌∷◌, ap, ◌∙◌, refl, sym, subst, arith, Option, Some}
use Rattle.std.proofs.Common.{None, true, Bool}
use Rattle.std.specs.Prelude.{unwrap_or}
use Rattle.std.specs.List.{list_all}
use Rattle.std.proofs.lemmas.Bool.{cases_eq}
use Rattle.std.proofs.lemmas.Bool.Decides.{nat_tests}
use Rattle.std.proofs.lemmas.Grind.{common_steps}
use Rattle.iol_core.specs.NumberedLists.{lookup}
use Rattle.iol_core.specs.State.{State, Connection, conn_at, no_conn}
use Rattle.iol_core.specs.Run.{StepsTo}
use Rattle.iol_core.specs.declared.events.Event.{Event}
use Rattle.iol_core.specs.declared.events.Event.TheVariants as event
use Rattle.iol_core.specs.declared.events.Reply.{Reply}
use Rattle.iol_laws.specs.Labels.{lies_in}
use Rattle.iol_laws.specs.Order.{IsOrderly, Once}
use Rattle.iol_laws.proofs.Streams.WaitingConn.{opened-conn}
use Rattle.iol_proc.specs.Quiescence.{Quiesces}
use Rattle.iol_proc.specs.Turns.{TransitionRelation, Comes, ProcessSlotTurn}
use Rattle.iol_proc.specs.World.{WorldState, WorldRun, WorldStep, copying}
use Rattle.iol_proc.specs.declared.choice.Choice.{Choice}
use Rattle.iol_proc.specs.declared.choice.Choice.TheVariants as choice
use Rattle.iol_proc.specs.declared.process.Turn.{Turn}
use Rattle.iol_proc.specs.declared.process.Turn.TheVariants as turn
use Rattle.iol_proc.specs.declared.process_slot.ProcessSlot.{ProcessSlot}
use Rattle.flash_laws.specs.Serves.Rounds.{in_rounds}
use Rattle.flash_laws.specs.Workers.WorkerSet.{WorkerSet}
use Rattle.flash_laws.specs.World.{Consistent}
use Rattle.flash_laws.specs.World.Consistency.{actor_turns}
use Rattle.flash_laws.proofs.World.AllLaws.{AllLaws}
use Rattle.flash_laws.proofs.World.Steps.{run_keeps}
use Rattle.flash_laws.proofs.World.Whole.{first_consistent}
use Rattle.flash_progress.specs.Hosted.{HostedBecomesIdle}
use Rattle.flash_progress.specs.Served.{CanRead, RunsLongEnough}
use Rattle.flash_progress.proofs.Invariant.{MoreLaws, read-step}
use Rattle.flash_progress.proofs.Served.{becomes_idle, serves_all}

-- ---- arrivals can be read, from a new world on

-- without connections there are no unread bytes
none-at-home : (es : List (ℕ × Connection)) → Once es → ((c : ℕ) → unwrap_or (lookup es c) no_conn ≡ no_conn)
    → list_all (λ e. lies_in e.1.pool e.1.incoming) es ≡ true
none-at-home [] once none = refl
none-at-home (e ∷ es) once none =
    both (λ (k : Connection). lies_in k.pool k.incoming) first (none-at-home es once.1 others)
  where
    first : lies_in e.1.pool e.1.incoming ≡ true
    first =
        let here : lookup (e ∷ es) e.0 ≡ Some e.1 = grind (arith, nat_tests, common_steps) in
        let same : e.1 ≡ no_conn = sym (ap (λ (o : Option Connection). unwrap_or o no_conn) here) ∙ none e.0 in
        ap (λ (k : Connection). lies_in k.pool k.incoming) same

    others : (c : ℕ) → unwrap_or (lookup es c) no_conn ≡ no_conn
    others c = elim (cases_eq e.0 c) [
      | inl same ↦ ap (λ (o : Option Connection). unwrap_or o no_conn) (subst (λ n. lookup es n ≡ None) same once.0)
      | inr differ ↦
          (let there : lookup (e ∷ es) c ≡ lookup es c = grind (arith, nat_tests, common_steps, differ) in
          ap (λ (o : Option Connection). unwrap_or o no_conn) (sym there) ∙ none c)
    ]

    both : (P : Connection → Bool) → P e.1 ≡ true → list_all (λ (x : ℕ × Connection). P x.1) es ≡ true
        → list_all (λ (x : ℕ × Connection). P x.1) (e ∷ es) ≡ true
    both P one rest = grind (arith, common_steps, one, rest)

all-unmade : (m : State) (c : ℕ) → conn_at m c ≡ no_conn → unwrap_or (lookup m.conns c) no_conn ≡ no_conn
unfolding conn_at
all-unmade m c is = is

new-reads : (m : State) → IsOrderly m → ((c : ℕ) → conn_at m c ≡ no_conn) → CanRead m
new-reads m order none = record {
  home = none-at-home m.conns order.once (λ c. all-unmade m c (none c));
  holders = λ d fd c is. absurd (let gone = ap (λ (k : Connection). k.closed) (none c) in let stands =
      (opened-conn m d fd c order is).1 in cc (gone, stands));
}

module _ {P : Type 0} (turns : TransitionRelation P) where
  -- a step of a world leaves the machine unchanged, or is one event of it
  abbrev Moved : State → State → Type 0
  Moved m n = (n ≡ m) ⊎ ((e : Event) × (r : Reply) × StepsTo m e r n)

  of-turn : (m n : State) (by : ℕ) (made : Turn) (yields : Bool) (r : Reply) → Comes copying turns m by made yields r n
      → Moved m n
  of-turn m n by turn.Yield yields r comes = inl comes.2
  of-turn m n by (turn.Make k) yields r comes = inr (event.Call by k, r, comes.1)

  of-process_slot : (m n : State) (process_slot next : ProcessSlot P) (yields : Bool) (r : Reply)
      → ProcessSlotTurn copying turns m process_slot yields r n next → Moved m n
  of-process_slot m n process_slot next yields r (inl starves) = inl starves.machine_stays
  of-process_slot m n process_slot next yields r (inr moves) =
      of-turn m n process_slot.by moves.turn yields r moves.comes

  of-step : (w after : WorldState State P) (x : Choice) (r : Reply) → WorldStep copying turns w x r after
      → Moved w.machine after.machine
  of-step w after (choice.Turn by) r (inl absent) = inl (ap (λ (v : WorldState State P). v.machine) absent.stays)
  of-step w after (choice.Turn by) r (inr present) =
      of-process_slot w.machine after.machine present.turn.process_slot present.turn.next present.yields r
      present.turn.turn
  of-step w after (choice.Outside e) r step = inr (e, r, step.step)

  reads-run : (step : (s t : State) (e : Event) (r : Reply) → IsOrderly s → CanRead s → StepsTo s e r t
      → IsOrderly t × CanRead t)
      → (xs : List Choice) (rs : List Reply) (w after : WorldState State P) → IsOrderly w.machine → CanRead w.machine
      → WorldRun copying turns w xs rs after → CanRead after.machine
  reads-run step [] [] w after order reads run = subst (λ (v : WorldState State P). CanRead v.machine) (sym run) reads
  reads-run step (x ∷ xs) (r ∷ rs) w after order reads run =
      let next : IsOrderly run.0.machine × CanRead run.0.machine = elim (of-step w run.0 x r run.1) [
        | inl same ↦ (subst IsOrderly (sym same) order, subst CanRead (sym same) reads)
        | inr moved ↦ step w.machine run.0.machine moved.0 moved.1 order reads moved.2
      ] in
      reads-run step xs rs run.0 after next.0 next.1 run.2
  reads-run step [] (r ∷ rs) w after order reads run = absurd run
  reads-run step (x ∷ xs) [] w after order reads run = absurd run

-- ---- the theorem

module _ (worker_set : WorkerSet) (laws : AllLaws worker_set) (more : MoreLaws) where
  pub hosted_becomes_idle : Quiesces worker_set.quiescent worker_set.turns → HostedBecomesIdle worker_set
  hosted_becomes_idle quiesces site_contents xs rs w mid most idle after has = (
    becomes_idle worker_set laws more site_contents xs rs mid most idle after turns_in_rounds,
    serves_all worker_set laws more quiesces site_contents xs rs mid most idle after turns_in_rounds,
  )
    where
      first : Consistent site_contents worker_set [] [] w
      first = first_consistent site_contents worker_set w has.new

      consistent : Consistent site_contents worker_set xs rs mid
      consistent = run_keeps in_rounds site_contents worker_set laws xs rs w mid [] [] has.run has.site_preserving
          has.fair first

      reads : CanRead mid.machine
      reads = reads-run (actor_turns in_rounds worker_set.turns)
          (λ s t e r order can step. (
            laws.the.orders.step s t e r order step,
            read-step more.homes laws.the.steps laws.the.orders s t e r order can step,
          ))
          xs rs w mid has.new.order (new-reads w.machine has.new.order has.new.no_conns) has.run

      turns_in_rounds : RunsLongEnough worker_set site_contents xs rs mid most idle after
      turns_in_rounds = record {
        files = has.files;
        consistent = consistent;
        reads = reads;
        places = has.places;
        ends = has.ends;
        lacks_none = has.lacks_none;
        fair = has.fair_rounds;
        suffices = has.suffices;
      }
