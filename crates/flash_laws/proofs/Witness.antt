-- The premises of the law can be met: a small site, a new world with only the server, and an undisturbed run of that
-- world.
use Rattle.std.proofs.Common.{inl, inr, ◌≡◌, ◌≢◌, ℕ, zero, suc, ◌+◌, ◌≤◌, ◌<◌, ◌⊎◌, List, [], ◌∷◌, length, replicate}
use Rattle.std.proofs.Common.{ap, refl, sym, subst, arith, Some, true, false, Bool}
use Rattle.std.specs.Prelude.{codes, bytes_eq, position, option_map, ◌||◌}
use Rattle.std.proofs.lemmas.Bool.Decides.{nat_tests}
use Rattle.std.proofs.lemmas.Grind.{common_steps}
use Rattle.std.proofs.lemmas.List.{length-replicate}
use Rattle.iol_core.specs.Access.{HasAccess}
use Rattle.iol_core.specs.NumberedLists.{is_numbered}
use Rattle.iol_core.specs.Positions.{ArePlaced}
use Rattle.iol_core.specs.State.{State, File, new_state, domain, pool, file, content, conn_at, is_pool, may_read}
use Rattle.iol_core.specs.State.{with_domain, with_conn, with_content}
use Rattle.iol_core.specs.Run.{meaning, StepsTo}
use Rattle.iol_core.specs.declared.events.Event.{Event}
use Rattle.iol_core.specs.declared.events.Event.TheVariants as event
use Rattle.iol_core.specs.declared.events.Call.TheVariants as call
use Rattle.iol_core.specs.declared.events.Reply.{Reply}
use Rattle.iol_core.specs.declared.events.Reply.TheVariants as reply
use Rattle.iol_core.specs.declared.limits.TheConstants.{MAX_FILES, MAX_FILE_BYTES}
use Rattle.iol_core.specs.declared.refusals.Refusal.TheVariants as refusal
use Rattle.iol_laws.specs.DescriptorNumbers.{DescriptorsComeByReplies, AreLow}
use Rattle.iol_laws.specs.Order.{IsOrderly, EachStepKeepsOrder}
use Rattle.iol_proc.specs.Quiescence.{Claim}
use Rattle.iol_proc.specs.Turns.{TransitionRelation}
use Rattle.iol_proc.specs.World.{WorldState}
use Rattle.iol_proc.specs.declared.choice.Choice.{Choice}
use Rattle.iol_proc.specs.declared.choice.Choice.TheVariants as choice
use Rattle.iol_proc.specs.declared.process.Turn.TheVariants as turn
use Rattle.iol_proc.specs.declared.process_slot.ProcessSlot.{ProcessSlot}
use Rattle.flash_cgi.specs.Expected.{Made}
use Rattle.flash_cgi.specs.Outcomes.{AreFiles}
use Rattle.flash_cgi.specs.Output as script
use Rattle.flash_laws.specs.Answers.{Found, Failed}
use Rattle.flash_laws.specs.Conn.{most_read}
use Rattle.flash_laws.specs.declared.phase.PendingCall.TheVariants.{Accepting}
use Rattle.flash_laws.specs.Workers.WorkerSet.{WorkerSet, IsFixedFor}
use Rattle.flash_laws.specs.Workers.WorkerSets.{worker_set_with, OfSome}
use Rattle.flash_laws.specs.Serves.{new_server}
use Rattle.flash_laws.specs.SiteContents.{SiteContents}
use Rattle.flash_laws.specs.World.Fair.{no_refusal}
use Rattle.flash_laws.specs.Site.{server, outcome_in, IsFixed}
use Rattle.flash_laws.specs.World.Consistency.{reports_over, made_over, Actor, Serving}
use Rattle.flash_laws.specs.World.{IsNew, ARunIsUndisturbed}
use Rattle.flash_laws.proofs.Lists.{not-equal}

-- the state after an event
abbrev then_on : State → Event → State
then_on s e = (meaning s e).after

-- two slots with texts, and empty slots
abbrev slots : List (List ℕ)
slots = codes "hello" ∷ codes "secret" ∷ replicate MAX_FILES []

enough : MAX_FILES ≤ length slots
enough = omega (arith, length-replicate {A = List ℕ} MAX_FILES [])

-- Domain 1 is the server and 2 a guest. Both may read pool 1; pool 2 is the net, and pool 4 is the guest's own. Pool 1
-- has a file, and so has pool 4.
abbrev begun : State
begun = new_state slots

abbrev with_guest : State
with_guest = then_on begun (event.Call 1 call.DomainNew)

abbrev with_site : State
with_site = then_on with_guest (event.Call 1 (call.PoolCreate 1 (1 ∷ 2 ∷ [])))

abbrev with_net : State
with_net = then_on with_site (event.Call 1 (call.PoolCreate 1 (1 ∷ [])))

abbrev with_work : State
with_work = then_on with_net (event.Call 1 (call.PoolCreate 1 (1 ∷ 2 ∷ [])))

abbrev with_vault : State
with_vault = then_on with_work (event.Call 1 (call.PoolCreate 1 (2 ∷ [])))

abbrev with_file : State
with_file = then_on with_vault (event.Call 1 (call.FileNew (codes "a.txt") 1))

abbrev site : State
site = then_on with_file (event.Call 2 (call.FileNew (codes "b.txt") 4))

site_pools : (with_vault.pools)
    ≡ (record { domains = 1 ∷ 2 ∷ []; closed = false } ∷ record { domains = 1 ∷ []; closed = false }
    ∷ record { domains = 1 ∷ 2 ∷ []; closed = false } ∷ record { domains = 2 ∷ []; closed = false } ∷ [])
unfolding domain pool file content with_domain with_content
site_pools = refl

-- the outcomes of a file, of a file that the server may not read, and of an unknown name
site_outcomes : (outcome_in site (codes "a.txt") ≡ Found (codes "hello"))
    × (outcome_in site (codes "b.txt") ≡ Failed 403) × (outcome_in site (codes "c.txt") ≡ Failed 404)
unfolding domain pool file content with_domain with_content
site_outcomes = (refl, refl, refl)

-- only the server may read the net
site_net : (d : ℕ) → d ≢ server → may_read site d 2 ≡ false
unfolding domain pool file content with_domain with_content
site_net d differ = ap (λ b. b || false) (not-equal 1 d (λ same. differ (same_turned same)))
  where
    same_turned : 1 ≡ d → d ≡ 1
    same_turned e = cc

-- a property of the new state that each step keeps holds of the site
over_steps : (Q : State → Type 0) → ((s t : State) (e : Event) (r : Reply) → Q s → StepsTo s e r t → Q t) → Q begun
    → Q site
unfolding domain pool file content with_domain with_content
over_steps Q step first =
    step with_file site (event.Call 2 (call.FileNew (codes "b.txt") 4)) (reply.File 2)
    (step with_vault with_file (event.Call 1 (call.FileNew (codes "a.txt") 1)) (reply.File 1)
    (step with_work with_vault (event.Call 1 (call.PoolCreate 1 (2 ∷ []))) (reply.Pool 4)
    (step with_net with_work (event.Call 1 (call.PoolCreate 1 (1 ∷ 2 ∷ []))) (reply.Pool 3)
    (step with_site with_net (event.Call 1 (call.PoolCreate 1 (1 ∷ []))) (reply.Pool 2)
    (step with_guest with_site (event.Call 1 (call.PoolCreate 1 (1 ∷ 2 ∷ []))) (reply.Pool 1)
    (step begun with_guest (event.Call 1 call.DomainNew) (reply.Domain 2) first (refl, refl, refl)) (refl, refl, refl))
    (refl, refl, refl)) (refl, refl, refl)) (refl, refl, refl)) (refl, refl, refl)) (refl, refl, refl)

-- a file that has a name is 1 or 2
one_of_two : (a b : Bool) (f : ℕ)
    → option_map (λ i. i + 1) (position (λ (x : Bool). x) (a ∷ b ∷ [])) ≡ Some f → (f ≡ 1) ⊎ (f ≡ 2)
one_of_two true b f is = inl (cc)
one_of_two false true f is = inr (cc)
one_of_two false false f is = absurd (cc)

site_short : (f : ℕ) → (f ≡ 1) ⊎ (f ≡ 2) → length (content site f) ≤ most_read
unfolding domain pool file content with_domain with_content
site_short f (inl one) = subst (λ z. length (content site z) ≤ most_read) (sym one) (omega arith)
site_short f (inr two) = subst (λ z. length (content site z) ≤ most_read) (sym two) (omega arith)

site_readers : (f : ℕ) → (f ≡ 1) ⊎ (f ≡ 2) → (d : ℕ) × (may_read site d (file site f).pool ≡ true)
unfolding domain pool file content with_domain with_content
site_readers f (inl one) = (1, subst (λ z. may_read site 1 (file site z).pool ≡ true) (sym one) refl)
site_readers f (inr two) = (2, subst (λ z. may_read site 2 (file site z).pool ≡ true) (sym two) refl)

site_fixed : IsFixed (outcome_in site) site
unfolding domain pool file content with_domain with_content
site_fixed = record {
  lives = refl;
  outcomes = λ name. refl;
  lengths = λ name f is. site_short f (one_of_two (bytes_eq (codes "a.txt") name) (bytes_eq (codes "b.txt") name) f is);
  read_by =
      λ name f is. site_readers f (one_of_two (bytes_eq (codes "a.txt") name) (bytes_eq (codes "b.txt") name) f is);
  net_read = refl;
  net_alone = site_net;
}

-- each file is 1 or 2
of_two : {A : Type 0} (a b : A) (f : ℕ) → is_numbered (a ∷ b ∷ []) f ≡ true → (f ≡ 1) ⊎ (f ≡ 2)
of_two a b f is = by f (grind (arith, nat_tests, common_steps, is)) (grind (arith, nat_tests, common_steps, is))
  where
    by : (f : ℕ) → 0 < f → f ≤ 2 → (f ≡ 1) ⊎ (f ≡ 2)
    by zero first last = absurd (omega (arith, first))
    by (suc zero) first last = inl refl
    by (suc (suc zero)) first last = inr refl
    by (suc (suc (suc f))) first last = absurd (omega (arith, last))

two_files : (f : ℕ) → is_numbered site.files f ≡ true → (f ≡ 1) ⊎ (f ≡ 2)
unfolding domain pool file content with_domain with_content
two_files f is =
    of_two {A = File} (record { name = codes "a.txt"; pool = 1 }) (record { name = codes "b.txt"; pool = 4 }) f is

site_within : (f : ℕ) → (f ≡ 1) ⊎ (f ≡ 2) → length (content site f) ≤ MAX_FILE_BYTES
unfolding domain pool file content with_domain with_content
site_within f (inl one) = subst (λ z. length (content site z) ≤ MAX_FILE_BYTES) (sym one) (omega arith)
site_within f (inr two) = subst (λ z. length (content site z) ≤ MAX_FILE_BYTES) (sym two) (omega arith)

site_pooled : (f : ℕ) → (f ≡ 1) ⊎ (f ≡ 2) → is_pool site (file site f).pool ≡ true
unfolding domain pool file content with_domain with_content
site_pooled f (inl one) = subst (λ z. is_pool site (file site z).pool ≡ true) (sym one) refl
site_pooled f (inr two) = subst (λ z. is_pool site (file site z).pool ≡ true) (sym two) refl

site_files : AreFiles site
unfolding domain pool file content with_domain with_content
site_files = record {
  lengths = λ f is. site_within f (two_files f is);
  pooled = λ name f is. site_pooled f (one_of_two (bytes_eq (codes "a.txt") name) (bytes_eq (codes "b.txt") name) f is);
}

-- nothing is shown, since no script runs
abbrev site_contents : SiteContents
site_contents = record {
  finds = outcome_in site;
  shows = λ name. script.Failed refusal.NoFile;
  scripts = false;
  refuses = no_refusal;
}

-- A new world with only the server. A connection arrives and is accepted: this run is undisturbed, and the
-- connection is one of the net.
module _ (orders : EachStepKeepsOrder) (descriptors : DescriptorsComeByReplies) {W : Type 0}
    (works : TransitionRelation W) (quiescent : Claim W)
    (free : (ℕ → Bool) → State → ℕ → ProcessSlot W → Type 0) (expected : (ℕ → Bool) → State → ℕ → ℕ → ProcessSlot W
    → Made → List ℕ → Type 0) where
  -- no workers, so no job queues, and no pools of workers
  abbrev alone : WorkerSet
  alone = worker_set_with works quiescent free expected 0 (λ k. 0) (λ q. false) (λ q. true)

  fixed_alone : IsFixedFor site_contents alone site
  unfolding domain pool file content with_domain with_content
  fixed_alone = record {
    site = site_fixed;
    access = over_steps HasAccess orders.access (orders.new_access slots);
    placed = over_steps ArePlaced orders.places (orders.new_places slots enough);
    low = over_steps AreLow descriptors.step (descriptors.new slots);
    files = site_files;
    holds = λ k lt. absurd (omega (arith, lt));
    shows = λ k lt name. absurd (omega (arith, lt));
    wide = λ q is. absurd (cc (is));
    read_jobs = λ k lt. absurd (omega (arith, lt));
    default = refl;
    scripts = refl;
  }

  abbrev new_world : WorldState State (Actor W)
  new_world =
      record {
        machine = site;
        process_slots = record { by = server; process = Serving new_server; last = reply.Done }
            ∷ [];
        resource_failure = false;
      }

  world_is_new : IsNew site_contents alone new_world
  unfolding conn_at domain with_domain
  world_is_new = record {
    order = over_steps IsOrderly orders.step (orders.new slots);
    fixed = fixed_alone;
    workers = [];
    process_slots = refl;
    job_queues = record {
      in_slots = λ k lt. absurd (omega (arith, lt));
      by = λ k process_slot is. absurd (cc (is));
      job_queues = λ k lt. absurd (omega (arith, lt));
    };
    free = λ k process_slot is. absurd (cc (is));
    no_aggs = λ a. refl;
    no_conns = λ c. refl;
  }

  abbrev with_conn_1 : WorldState State (Actor W)
  with_conn_1 = record new_world { machine = then_on site (event.ConnNew 2) }

  abbrev accepted_1 : WorldState State (Actor W)
  accepted_1 = record {
    machine = then_on (then_on site (event.ConnNew 2)) (event.Call 1 call.Accept);
    process_slots =
        record {
          by = server;
          process = Serving (record { clients = []; pending_call = Accepting; workers = 0 });
          last = reply.Fd 0;
        } ∷ [];
    resource_failure = false;
  }

  abbrev choices : List Choice
  choices = choice.Outside (event.ConnNew 2) ∷ choice.Turn 1 ∷ []

  abbrev replies : List Reply
  replies = reply.Conn 1 ∷ reply.Fd 0 ∷ []

  run_is_undisturbed : ARunIsUndisturbed alone
  unfolding domain pool file content with_domain with_conn with_content conn_at reports_over made_over
  run_is_undisturbed = record {
    site_contents = site_contents;
    first = new_world;
    after = accepted_1;
    choices = choices;
    replies = replies;
    is_new = world_is_new;
    run = (
      with_conn_1,
      record { step = (refl, refl, refl); process_slots_stay = refl; resource_failure_stays = refl },
      (
        accepted_1,
        inr (record {
          place = 0;
          yields = false;
          turn = record {
            process_slot = record { by = server; process = Serving new_server; last = reply.Done };
            next =
                record {
                  by = server;
                  process = Serving (record { clients = []; pending_call = Accepting; workers = 0 });
                  last = reply.Fd 0;
                };
            sits = refl;
            turn =
                inr (record {
                  turn = turn.Make call.Accept;
                  proceeds = (refl, (refl, refl), refl);
                  comes = (refl, (refl, refl, refl));
                  reported = refl;
                  domain_stays = refl;
                });
            others_stay = refl;
            notes = refl;
          };
          domain = refl;
        }),
        refl,
      ),
    );
    site_preserving = (tt, (tt, tt));
    failure_free = (refl, tt);
    conn = 1;
    comes = refl;
    taken = refl;
    open_yet = refl;
  }

  pub some_run_is_undisturbed : OfSome works quiescent free expected ARunIsUndisturbed
  some_run_is_undisturbed = record {
    count = 0;
    job_queue = λ k. 0;
    pools = λ q. false;
    jobs = λ q. true;
    apart = λ k l lt lt_l same. absurd (omega (arith, lt));
    holds = run_is_undisturbed;
  }
