-- A turn, by the results of its parts.
use Rattle.std.proofs.Common.{◌≡◌, ℕ, ◌+◌, ◌<◌, List, [], length, ap, ◌∙◌, refl, sym, subst, Option, Some, None, true}
use Rattle.std.proofs.Common.{false, Bool}
use Rattle.std.specs.Prelude.{not, ◌||◌, min, slice_set}
use Rattle.std.proofs.lemmas.List.{get_or-set_same}
use Rattle.iol_core.specs.NumberedLists.{in_place}
use Rattle.iol_core.specs.declared.events.Call.{Call}
use Rattle.iol_core.specs.declared.events.Reply.{Reply}
use Rattle.iol_core.specs.declared.events.Reply.TheVariants as reply
use Rattle.iol_proc.specs.declared.process.Turn.{Turn}
use Rattle.iol_proc.specs.declared.process.Turn.TheVariants as turn
use Rattle.flash_laws.specs.Client.{Client, new_client, after_reply, left_over, awaits, has_answered, is_bare}
use Rattle.flash_laws.specs.Site.Places.{has_free, may_go, runs_scripts, filed}
use Rattle.flash_laws.specs.Conn.Policy.{accept_step, is_later}
use Rattle.flash_laws.specs.Serves.Rounds.{leaves_off, pending_call_from, next_pending_call, place_after}
use Rattle.flash_laws.specs.Serves.{Picks, PicksAt}
use Rattle.flash_laws.specs.Workers.OwnWorkers.{PendingCallGoes}
use Rattle.flash_laws.specs.Site.OtherConns.{with_at}
use Rattle.flash_laws.specs.declared.phase.PendingCall.{PendingCall}
use Rattle.flash_laws.specs.declared.phase.PendingCall.TheVariants.{Nothing, Accepting, At}
use Rattle.flash_lite.specs.Course.{Proceeds, IsLeft, worker_of}
use Rattle.flash_lite.specs.Table.{Table, ReportsFree, IsBetweenTurns}
use Rattle.flash_lite.specs.ServerTurn.{AtAcceptStep, CourseAt, PicksFrom, Turns, TurnsFree, accept_step_to, filed_by}
use Rattle.flash_lite.specs.ServerTurn.{has_in, first_in, is_worker, left_at, left_as, most_with, worker_at, worker_in}
use Rattle.flash_lite.specs.ServerTurn.{worker_left}
use Rattle.flash_lite.specs.declared.client.Course.TheVariants.{Asks, Leaves}
use Rattle.flash_lite.specs.declared.client.Left.{Left}
use Rattle.flash_lite.specs.declared.server.TheConstants.{MAX_CONNS}
use Rattle.flash_lite.proofs.Turns.FreeWorkers.{first_is, has_is, after_reply_by_worker, may_run, ready-waits}
use Rattle.flash_lite.proofs.Turns.FreeWorkers.{reports_turned, runs-some, left-runs}
use Rattle.flash_lite.proofs.Places.{at_within, accept_step_left, filed_left, filed_none, filed_there}
use Rattle.flash_lite.proofs.Places.{pending_call_filed, next_there, picks_filed, place_off, place_on, same_itself}
use Rattle.flash_lite.proofs.Places.{same_left, set_same, set_twice, after_reply_by, SameFrom}

-- a table with these parts
abbrev pub table : List (Option Client) → PendingCall → (workers : ℕ) → List Bool → Table
table clients pending_call workers free =
    record { clients = clients; pending_call = pending_call; workers = workers; free = free }

-- ---- the next client is picked after the reply is processed

picked : (s t : Table) (r : Reply) (received : List ℕ) (from most : ℕ) (made : Turn) (l : List (Option Client))
    → filed_by s r received ≡ l
    → next_pending_call s.workers l s.pending_call r ≡ pending_call_from s.workers l from → SameFrom from l s.clients
    → accept_step_to s.clients most ≡ accept_step l
    → PicksFrom (runs_scripts s.workers) (has_free s.workers l) s.clients from most t.pending_call made → t.clients ≡ l
    → t.workers ≡ s.workers → ReportsFree t.free t.clients
    → Turns s r received made t
picked s t r received from most made l is next same opens picks left hired reports = record {
  policy = pending_call_filed s.workers from most s.clients l t.pending_call made same opens picks
      ∙ (sym next ∙ ap (λ (m : List (Option Client)). next_pending_call s.workers m s.pending_call r) (sym is));
  picks = subst (λ (m : List (Option Client)). Picks s.workers m t.pending_call made t.clients) (sym is)
      (picks_filed s.workers from most s.clients l t.pending_call made t.clients same picks left);
  hired = hired;
  reports = reports;
}

-- the clients are unchanged
stays : (s t : Table) (r : Reply) (received : List ℕ) (from : ℕ) (made : Turn) → IsBetweenTurns s
    → filed_by s r received ≡ s.clients
    → next_pending_call s.workers s.clients s.pending_call r ≡ pending_call_from s.workers s.clients from
    → PicksFrom (runs_scripts s.workers) (has_in s.workers s.free) s.clients from MAX_CONNS t.pending_call made
    → t ≡ table s.clients t.pending_call s.workers s.free → Turns s r received made t
stays s t r received from made between is next picks same =
    let clients : t.clients ≡ s.clients = ap (λ (u : Table). u.clients) same in
    let free : t.free ≡ s.free = ap (λ (u : Table). u.free) same in
    picked s t r received from MAX_CONNS made s.clients is next (same_itself from s.clients) refl
    (subst (λ b. PicksFrom (runs_scripts s.workers) b s.clients from MAX_CONNS t.pending_call made)
    (has_is s.workers s.free s.clients between.reports between.hired) picks)
    clients (ap (λ (u : Table). u.workers) same)
    (subst (λ (l : List (Option Client)). ReportsFree t.free l) (sym clients)
    (subst (λ (f : List Bool). ReportsFree f s.clients) (sym free) between.reports))

pub nothing_turns : (s t : Table) (r : Reply) (received : List ℕ) (made : Turn) → IsBetweenTurns s
    → s.pending_call ≡ Nothing
    → PicksFrom (runs_scripts s.workers) (has_in s.workers s.free) s.clients 0 MAX_CONNS t.pending_call made
    → t ≡ table s.clients t.pending_call s.workers s.free → Turns s r received made t
nothing_turns s t r received made between flies picks same =
    stays s t r received 0 made between (ap (λ (w : PendingCall). filed s.workers s.clients w r received) flies)
    (ap (λ (w : PendingCall). next_pending_call s.workers s.clients w r) flies) picks same

pub none_turns : (s t : Table) (fd : ℕ) (r : Reply) (received : List ℕ) (now : List (Option Client)) (made : Turn)
    → IsBetweenTurns s → s.pending_call ≡ At fd → in_place s.clients fd ≡ None
    → now ≡ s.clients
    → PicksFrom (runs_scripts s.workers) (has_in s.workers s.free) now (fd + 1) MAX_CONNS t.pending_call made
    → t ≡ table now t.pending_call s.workers s.free
    → Turns s r received made t
none_turns s t fd r received now made between flies none is picks same =
    stays s t r received (fd + 1) made between
    (ap (λ (w : PendingCall). filed s.workers s.clients w r received) flies
    ∙ filed_none s.workers s.clients fd r received none)
    (ap (λ (w : PendingCall). next_pending_call s.workers s.clients w r) flies
    ∙ ap (λ p. pending_call_from s.workers s.clients p)
    (place_off fd (in_place s.clients fd) r (ap (λ (o : Option Client). leaves_off o r) none)))
    (subst (λ (l : List (Option Client)). PicksFrom (runs_scripts s.workers) (has_in s.workers s.free) l (fd + 1)
    MAX_CONNS t.pending_call made) is picks)
    (same ∙ ap (λ (l : List (Option Client)). table l t.pending_call s.workers s.free) is)

-- ---- a connection is accepted

accept_step-picks : (workers : ℕ) (l : List (Option Client)) (pending_call : PendingCall) (made : Turn)
    → AtAcceptStep pending_call made → Picks workers l pending_call made l
accept_step-picks workers l Nothing made at = (refl, at)
accept_step-picks workers l Accepting made at = (refl, at)
accept_step-picks workers l (At g) made at = absurd at

accepted-of : (s t : Table) (fd : ℕ) (made : Turn) → IsBetweenTurns s → s.pending_call ≡ Accepting
    → t.clients ≡ with_at s.clients fd (Some new_client)
    → t.pending_call ≡ accept_step_to t.clients MAX_CONNS → AtAcceptStep t.pending_call made → t.workers ≡ s.workers
    → TurnsFree s.free (worker_at s.clients fd) None t.free
    → Turns s (reply.Fd fd) [] made t
accepted-of s t fd made between flies clients pending_call at hired turned =
    let is : filed_by s (reply.Fd fd) [] ≡ t.clients =
    ap (λ (w : PendingCall). filed s.workers s.clients w (reply.Fd fd) []) flies ∙ sym clients in
    record {
      policy =
          pending_call ∙ (ap (λ (w : PendingCall). next_pending_call s.workers t.clients w (reply.Fd fd)) (sym flies)
          ∙ ap (λ (l : List (Option Client)). next_pending_call s.workers l s.pending_call (reply.Fd fd)) (sym is));
      picks = subst (λ (l : List (Option Client)). Picks s.workers l t.pending_call made t.clients) (sym is)
          (accept_step-picks s.workers t.clients t.pending_call made at);
      hired = hired;
      reports = subst (λ (l : List (Option Client)). ReportsFree t.free l) (sym clients)
          (reports_turned s.workers s.clients s.free t.free fd (Some new_client) None between.shared.own between.reports
          turned (λ k. refl));
    }

pub accepted_turns : (s t : Table) (fd : ℕ) (r : Reply) (was : Option ℕ) (made : Turn) → IsBetweenTurns s
    → s.pending_call ≡ Accepting → r ≡ reply.Fd fd
    → t.clients ≡ with_at s.clients fd (Some new_client) → t.pending_call ≡ accept_step_to t.clients MAX_CONNS
    → AtAcceptStep t.pending_call made → t.workers ≡ s.workers
    → was ≡ worker_at s.clients fd → TurnsFree s.free was None t.free → Turns s r [] made t
accepted_turns s t fd r was made between flies came clients pending_call at hired was_is turned =
    subst (λ (z : Reply). Turns s z [] made t) (sym came)
    (accepted-of s t fd made between flies clients pending_call at hired
    (subst (λ (o : Option ℕ). TurnsFree s.free o None t.free) was_is turned))

pub over_turns : (s t : Table) (r : Reply) (made : Turn) → IsBetweenTurns s → s.pending_call ≡ Accepting
    → next_pending_call s.workers s.clients Accepting r ≡ Nothing
    → filed s.workers s.clients Accepting r [] ≡ s.clients → t ≡ table s.clients Nothing s.workers s.free
    → made ≡ turn.Yield → Turns s r [] made t
over_turns s t r made between flies next stays same yields =
    let is : filed_by s r [] ≡ s.clients = ap (λ (w : PendingCall). filed s.workers s.clients w r []) flies ∙ stays in
    subst (λ (u : Table). Turns s r [] made u) (sym same) (record {
      policy = sym (ap (λ (l : List (Option Client)). next_pending_call s.workers l s.pending_call r) is
          ∙ (ap (λ (w : PendingCall). next_pending_call s.workers s.clients w r) flies ∙ next));
      picks = (sym is, yields);
      hired = refl;
      reports = between.reports;
    })

-- in an accept step no received bytes matter
pub unheard : (s t : Table) (r : Reply) (received : List ℕ) (made : Turn) → s.pending_call ≡ Accepting
    → Turns s r [] made t → Turns s r received made t
unheard s t r received made flies turns =
    let same : filed_by s r [] ≡ filed_by s r received =
    ap (λ (w : PendingCall). filed s.workers s.clients w r []) flies
    ∙ sym (ap (λ (w : PendingCall). filed s.workers s.clients w r received) flies) in
    record {
      policy = turns.policy ∙ ap (λ (l : List (Option Client)). next_pending_call s.workers l s.pending_call r) same;
      picks = subst (λ (l : List (Option Client)). Picks s.workers l t.pending_call made t.clients) same turns.picks;
      hired = turns.hired;
      reports = turns.reports;
    }

-- ---- a client continues

-- a client that is left is unchanged
pub left_same : (scripts : Bool) (a : ℕ) (clients now : List (Option Client)) (fd : ℕ) (r : Reply) (received : List ℕ)
    (l : Left)
    → CourseAt scripts a clients fd r received (Leaves l) now → now ≡ clients
left_same scripts a clients now fd r received l w =
    w.after_is ∙ (ap (λ (y : Client). slice_set clients fd (Some y)) w.course.unchanged
    ∙ set_same clients fd w.was w.there w.within)

pub table_same : (s : Table) (now : List (Option Client)) → now ≡ s.clients
    → table now s.pending_call s.workers s.free ≡ s
table_same s now is = ap (λ (l : List (Option Client)). table l s.pending_call s.workers s.free) is

module _ (s : Table) (between : IsBetweenTurns s) (fd : ℕ) (flies : s.pending_call ≡ At fd) (r : Reply)
    (received : List ℕ) where
  goes-at : PendingCallGoes s.workers s.clients (At fd)
  goes-at = subst (λ (w : PendingCall). PendingCallGoes s.workers s.clients w) flies between.shared.goes

  -- with the worker that the specification gives
  pub by_words : (a : ℕ) (x : Client) → a ≡ min (first_in s.workers s.free) 7 → in_place s.clients fd ≡ Some x
      → after_reply (runs_scripts s.workers) a x r received ≡ after_reply_by s.workers s.clients x r received
  by_words a x is there =
      after_reply_by_worker (runs_scripts s.workers) s.workers a s.clients fd x r received goes-at there between.hired
      (is ∙ ap (λ k. min k 7) (first_is s.workers s.free s.clients between.reports between.hired))

  pub at-is : (l : List (Option Client)) → filed s.workers s.clients (At fd) r received ≡ l → filed_by s r received ≡ l
  at-is l is = ap (λ (w : PendingCall). filed s.workers s.clients w r received) flies ∙ is

  next-is : (l : List (Option Client)) (from : ℕ) → place_after fd (in_place l fd) r ≡ from
      → next_pending_call s.workers l s.pending_call r ≡ pending_call_from s.workers l from
  next-is l from is = ap (λ (w : PendingCall). next_pending_call s.workers l w r) flies
      ∙ ap (λ p. pending_call_from s.workers l p) is

  -- a client that continues waits for no worker
  on-runs : (x : Client) (r : Reply) → leaves_off (Some x) r ≡ false → awaits x ≡ false
  on-runs x r on = by (is_later r) (awaits x) on
    where
      by : (b a : Bool) → (b || (a || (has_answered x || is_bare x))) ≡ false → a ≡ false
      by true a on = absurd (cc (on))
      by false true on = absurd (cc (on))
      by false false on = refl

  -- it makes its call at once
  pub asks_turns : (t : Table) (a : ℕ) (k : Call) (after : List (Option Client)) (had has : Option ℕ)
      → a ≡ min (first_in s.workers s.free) 7
      → CourseAt (runs_scripts s.workers) a s.clients fd r received (Asks k) after
      → t ≡ table after (At fd) s.workers t.free
      → had ≡ worker_at s.clients fd → has ≡ worker_at after fd → TurnsFree s.free had has t.free
      → Turns s r received (turn.Make k) t
  asks_turns t a k after had has is w same had_is has_is turns =
      let z : Client = after_reply_by s.workers s.clients w.was r received in
      let turned : TurnsFree s.free (worker_at s.clients fd) (worker_at after fd) t.free =
      subst (λ (o : Option ℕ). TurnsFree s.free o (worker_at after fd) t.free) had_is
      (subst (λ (o : Option ℕ). TurnsFree s.free had o t.free) has_is turns) in
      let after_reply_is = by_words a w.was is w.there in
      let goes : Proceeds (after_reply_by s.workers s.clients w.was r received) r w.now =
      subst (λ (y : Client). Proceeds y r w.now) after_reply_is w.course.0 in
      let none : Option Client = None in
      let f : filed s.workers s.clients (At fd) r received ≡ slice_set s.clients fd (Some z) =
      filed_there s.workers s.clients fd w.was r received w.there w.within
      ∙ ap (λ (o : Option Client). slice_set s.clients fd o) goes.stays in
      let there : in_place (slice_set s.clients fd (Some z)) fd ≡ Some z =
      get_or-set_same s.clients fd (Some z) none w.within in
      let set : (y : Client) → with_at s.clients fd (Some y) ≡ slice_set s.clients fd (Some y) =
      λ y. at_within s.clients fd (Some y) w.within in
      let runs : awaits z ≡ false =
      on-runs z r (ap (λ (o : Option Client). leaves_off o r) (sym goes.stays) ∙ goes.on) in
      let may : may_go (has_free s.workers (slice_set s.clients fd (Some z))) z ≡ true =
      may_run (has_free s.workers (slice_set s.clients fd (Some z))) z runs in
      let may_now : may_go (has_free s.workers after) w.now ≡ true =
      may_run (has_free s.workers after) w.now (ready-waits z w.now goes.readies ∙ runs) in
      let on : leaves_off (in_place (slice_set s.clients fd (Some z)) fd) r ≡ false =
      ap (λ (o : Option Client). leaves_off o r) (there ∙ sym goes.stays) ∙ goes.on in
      let next : next_pending_call s.workers (slice_set s.clients fd (Some z)) s.pending_call r ≡ At fd =
      next-is (slice_set s.clients fd (Some z)) fd (place_on fd (in_place (slice_set s.clients fd (Some z)) fd) r on)
      ∙ next_there s.workers (slice_set s.clients fd (Some z)) fd z there may in
      let picks : PicksAt s.workers (slice_set s.clients fd (Some z)) fd (turn.Make k) after = record {
        was = z;
        ready = w.now;
        there = there;
        readies = goes.readies;
        after_is = w.after_is ∙ set_twice s.clients fd (Some z) (Some w.now) w.within;
        goes = may_now;
        call_is = ap (λ (j : Call). turn.Make j) w.course.1;
      } in
      let had : in_place after fd ≡ Some w.now = ap (λ (m : List (Option Client)). in_place m fd) w.after_is
      ∙ get_or-set_same s.clients fd (Some w.now) none w.within in
      let reports : ReportsFree t.free after =
      subst (λ (m : List (Option Client)). ReportsFree t.free m) (set w.now ∙ sym w.after_is)
      (reports_turned s.workers s.clients s.free t.free fd (Some w.now) (worker_at after fd) between.shared.own
      between.reports turned
      (λ j. runs-some w.now j ∙ ap (λ (o : Option Client). is_worker (worker_in o) j) (sym had))) in
      subst (λ (u : Table). Turns s r received (turn.Make k) u) (sym same) (record {
        policy =
            sym (ap (λ (m : List (Option Client)). next_pending_call s.workers m s.pending_call r)
            (at-is (slice_set s.clients fd (Some z)) f) ∙ next);
        picks =
            subst (λ (m : List (Option Client)). PicksAt s.workers m fd (turn.Make k) after)
            (sym (at-is (slice_set s.clients fd (Some z)) f)) picks;
        hired = refl;
        reports = reports;
      })

  -- ---- a client is left

  -- a client that is left, and the clients afterwards, by the specification
  pub record LeftAt (l : Left) (now : List (Option Client)) : Type 0 where
    pub was : Client
    pub there : in_place s.clients fd ≡ Some was
    pub within : fd < length s.clients
    pub by : IsLeft (after_reply_by s.workers s.clients was r received) was r l was
    pub filed_is : filed s.workers s.clients (At fd) r received ≡ left_at s.clients fd l
    pub in_is : in_place (left_at s.clients fd l) fd ≡ left_over (after_reply_by s.workers s.clients was r received)
    pub same : now ≡ s.clients

  pub left-at : (a : ℕ) (l : Left) (now : List (Option Client)) → a ≡ min (first_in s.workers s.free) 7
      → CourseAt (runs_scripts s.workers) a s.clients fd r received (Leaves l) now → LeftAt l now
  left-at a l now is w =
      let after_reply_is = by_words a w.was is w.there in
      let none : Option Client = None in
      let z : Client = after_reply_by s.workers s.clients w.was r received in
      let unchanged : w.now ≡ w.was = w.course.unchanged in
      let by : IsLeft z w.was r l w.was =
      subst (λ (y : Client). IsLeft z w.was r l y) unchanged
      (subst (λ (y : Client). IsLeft y w.was r l w.now) after_reply_is w.course) in
      let filed_is = filed_left s.workers s.clients fd w.was z l r received w.there w.within refl by.after_reply_is
      by.remains_is in
      record {
        was = w.was;
        there = w.there;
        within = w.within;
        by = by;
        filed_is = filed_is;
        in_is =
            ap (λ (m : List (Option Client)). in_place m fd) (sym filed_is
            ∙ filed_there s.workers s.clients fd w.was r received w.there w.within)
            ∙ get_or-set_same s.clients fd (left_over z) none w.within;
        same = left_same (runs_scripts s.workers) a s.clients now fd r received l w;
      }

  pub left-reports : (l : Left) (now : List (Option Client)) (free : List Bool) → LeftAt l now
      → TurnsFree s.free (worker_at s.clients fd) (worker_left l (worker_at s.clients fd)) free
      → ReportsFree free (left_at s.clients fd l)
  left-reports l now free w turned =
      let z : Client = after_reply_by s.workers s.clients w.was r received in
      let worker : worker_at s.clients fd ≡ worker_of w.was = ap (λ (o : Option Client). worker_in o) w.there in
      let at : with_at s.clients fd (left_over z) ≡ left_at s.clients fd l =
      at_within s.clients fd (left_over z) w.within
      ∙ (sym (filed_there s.workers s.clients fd w.was r received w.there w.within) ∙ w.filed_is) in
      subst (λ (m : List (Option Client)). ReportsFree free m) at
      (reports_turned s.workers s.clients s.free free fd (left_over z) (worker_left l (worker_at s.clients fd))
      between.shared.own between.reports turned
      (λ k. left-runs l z w.was k w.by.after_reply_is
      ∙ ap (λ (o : Option ℕ). is_worker (worker_left l o) k) (sym worker)))

  next-left : (l : Left) (now : List (Option Client)) → LeftAt l now
      → next_pending_call s.workers (left_at s.clients fd l) s.pending_call r ≡ pending_call_from s.workers
      (left_at s.clients fd l) (fd + 1)
  next-left l now w =
      next-is (left_at s.clients fd l) (fd + 1)
      (place_off fd (in_place (left_at s.clients fd l) fd) r (ap (λ (o : Option Client). leaves_off o r) w.in_is
      ∙ w.by.passed))

  pub freed_by : (l : Left) (had has : Option ℕ) (free : List Bool) → had ≡ worker_at s.clients fd
      → has ≡ worker_left l had → TurnsFree s.free had has free
      → TurnsFree s.free (worker_at s.clients fd) (worker_left l (worker_at s.clients fd)) free
  freed_by l had has free had_is left_is turns =
      subst (λ (o : Option ℕ). TurnsFree s.free o (worker_left l o) free) had_is
      (subst (λ (o : Option ℕ). TurnsFree s.free had o free) left_is turns)

  pub leaves_turns : (t : Table) (a : ℕ) (l : Left) (now : List (Option Client)) (had has : Option ℕ) (free : List Bool)
      (made : Turn) → a ≡ min (first_in s.workers s.free) 7
      → CourseAt (runs_scripts s.workers) a s.clients fd r received (Leaves l) now
      → had ≡ worker_at s.clients fd → has ≡ worker_left l had → TurnsFree s.free had has free
      → PicksFrom (runs_scripts s.workers) (has_in s.workers free) now (fd + 1) (most_with l) t.pending_call made
      → t ≡ table (left_at now fd l) t.pending_call s.workers free → Turns s r received made t
  leaves_turns t a l now had has free made is course had_is left_is turns picks same =
      let turned = freed_by l had has free had_is left_is turns in
      let w = left-at a l now is course in
      let reports : ReportsFree free (left_at s.clients fd l) = left-reports l now free w turned in
      let has : has_in s.workers free ≡ has_free s.workers (left_at s.clients fd l) =
      has_is s.workers free (left_at s.clients fd l) reports between.hired in
      let old : PicksFrom (runs_scripts s.workers) (has_in s.workers free) s.clients (fd + 1) (most_with l)
      t.pending_call made =
      subst (λ (n : List (Option Client)). PicksFrom (runs_scripts s.workers) (has_in s.workers free) n (fd + 1)
      (most_with l) t.pending_call made) w.same picks in
      let clients : t.clients ≡ left_at s.clients fd l = ap (λ (u : Table). u.clients) same
      ∙ ap (λ (n : List (Option Client)). left_at n fd l) w.same in
      let freed : t.free ≡ free = ap (λ (u : Table). u.free) same in
      picked s t r received (fd + 1) (most_with l) made (left_at s.clients fd l)
      (at-is (left_at s.clients fd l) w.filed_is) (next-left l now w)
      (same_left s.clients fd (left_as (in_place s.clients fd) l)) (accept_step_left s.clients fd w.was l w.there)
      (subst (λ b. PicksFrom (runs_scripts s.workers) b s.clients (fd + 1) (most_with l) t.pending_call made) has old)
      clients (ap (λ (u : Table). u.workers) same)
      (subst (λ (n : List (Option Client)). ReportsFree t.free n) (sym clients)
      (subst (λ (f : List Bool). ReportsFree f (left_at s.clients fd l)) (sym freed) reports))

-- rules for the turn of a client at a place

pub ruleset place_rules = (none_turns, asks_turns, leaves_turns, left_same, table_same)

-- rules for a turn without received bytes

pub ruleset silent_rules = (nothing_turns, unheard)
