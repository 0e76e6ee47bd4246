-- The server's transition relation preserves the condition that the server declares for idle moments.
use Rattle.std.proofs.Common.{inl, inr, ◌≡◌, ℕ, zero, suc, ◌+◌, ◌-◌, ◌<◌, ◌≤◌, ◌⊎◌, List, length, drop, get_or, ap, ◌∙◌}
use Rattle.std.proofs.Common.{refl, sym, subst, arith, Option, Some, None, true, false, Bool, if◌then◌else◌}
use Rattle.std.proofs.Common.{length-drop}
use Rattle.std.specs.Prelude.{nat_lt, position, option_map}
use Rattle.std.specs.List.{position_or_len}
use Rattle.std.proofs.lemmas.Bool.{cases_lt, cases_order}
use Rattle.std.proofs.lemmas.Bool.Decides.{nat_tests}
use Rattle.std.proofs.lemmas.List.{get_or-drop}
use Rattle.std.proofs.lemmas.List.Sums.{fails_before_first}
use Rattle.iol_core.specs.NumberedLists.{in_place, taken}
use Rattle.iol_core.specs.State.{State}
use Rattle.iol_core.specs.declared.refusals.Refusal.TheVariants as no
use Rattle.iol_core.specs.declared.events.Call.{Call}
use Rattle.iol_core.specs.declared.events.Call.TheVariants as call
use Rattle.iol_core.specs.declared.events.Reply.{Reply}
use Rattle.iol_core.specs.declared.events.Reply.TheVariants as reply
use Rattle.iol_proc.specs.ReadableBytes.{readable_to}
use Rattle.iol_proc.specs.Idle.{more_of_two}
use Rattle.iol_proc.specs.Quiescence.{Claim, Quiesces}
use Rattle.iol_proc.specs.Turns.{TransitionRelation}
use Rattle.iol_proc.specs.declared.process.Turn.{Turn}
use Rattle.iol_proc.specs.declared.process.Turn.TheVariants as turn
use Rattle.flash_laws.specs.Client.{Client, next_call, IsAwaiting}
use Rattle.flash_laws.specs.Conn.{Conn}
use Rattle.flash_laws.specs.World.Idle.{WouldWait, BlocksAt, AllBlock, BlockUpTo, HasYielded, IsPolling}
use Rattle.flash_laws.specs.World.Idle.{server_quiescent, actor_quiescent}
use Rattle.flash_laws.specs.Site.Places.{has_free, may_go, runs_scripts, filed}
use Rattle.flash_laws.specs.Conn.Policy.{most_conns, pending_call_to}
use Rattle.flash_laws.specs.Serves.Rounds.{leaves_off, goes_in, next_place, pending_call_from, next_pending_call}
use Rattle.flash_laws.specs.Serves.Rounds.{in_rounds}
use Rattle.flash_laws.specs.Serves.{Server, received_of, PicksAt, Picks, filed_in, server_turns}
use Rattle.flash_laws.specs.World.Consistency.{Actor, Serving, Working, actor_goes, actor_turns}
use Rattle.flash_laws.specs.Site.OtherConns.{with_at}
use Rattle.flash_laws.specs.declared.phase.PendingCall.{PendingCall}
use Rattle.flash_laws.specs.declared.phase.PendingCall.TheVariants.{Nothing, Accepting, At}
use Rattle.flash_laws.specs.declared.script_run.Running.{Running}
use Rattle.flash_laws.proofs.Conn.Responses.{some-inj}
use Rattle.flash_laws.proofs.Site.BlockedClients.{WaitLaw, none-in, same-there, filed-at, ready-blocked}

-- the call of a turn
abbrev called_in : Turn → Call → Call
called_in (turn.Make k) other = k
called_in turn.Yield other = other

-- The next place whose client may take a turn.

-- no place from `from` on and before the first one has such a client
none-before : (free : Bool) (clients : List (Option Client)) (from i : ℕ) → from ≤ i
    → i - from < position_or_len (λ o. goes_in free o) (drop from clients) → goes_in free (in_place clients i) ≡ false
none-before free clients from i le lt =
    let off : goes_in free (get_or (drop from clients) (i - from) None) ≡ false =
    fails_before_first (λ o. goes_in free o) (drop from clients) (i - from) None lt in
    let at : from + (i - from) ≡ i = omega (arith, le) in
    ap (λ z. goes_in free (get_or clients z None)) (sym at)
    ∙ (ap (λ (o : Option Client). goes_in free o) (sym (get_or-drop from clients (i - from) None)) ∙ off)

-- the place found: no place before it has such a client; without a result, no place from `from` on has one
pub record Found (free : Bool) (clients : List (Option Client)) (from : ℕ) (o : Option ℕ) : Type 0 where
  pub before : (fd : ℕ) → o ≡ Some fd → (i : ℕ) → from ≤ i → i < fd → goes_in free (in_place clients i) ≡ false
  pub none : o ≡ None → (i : ℕ) → from ≤ i → goes_in free (in_place clients i) ≡ false

pub found : (workers : ℕ) (clients : List (Option Client)) (from : ℕ)
    → Found (has_free workers clients) clients from (next_place workers clients from)
found workers clients from = in_free (has_free workers clients)
  where
    in_free : (free : Bool)
        → Found free clients from (option_map (λ k. from + k) (position (λ o. goes_in free o) (drop from clients)))
    in_free free = by (nat_lt (position_or_len (λ o. goes_in free o) (drop from clients)) (length (drop from clients)))
        refl
      where
        by : (b : Bool)
            → nat_lt (position_or_len (λ o. goes_in free o) (drop from clients)) (length (drop from clients)) ≡ b
            → Found free clients from
            (option_map (λ k. from + k)
            (if b then Some (position_or_len (λ o. goes_in free o) (drop from clients)) else None))
        by true is = record {
          before = λ fd e i le lt. (let at : from + position_or_len (λ o. goes_in free o) (drop from clients) ≡ fd =
              some-inj (from + position_or_len (λ o. goes_in free o) (drop from clients)) fd e in
              none-before free clients from i le (omega (arith, at, le, lt)));
          none = λ e i le. absurd (cc);
        }
        by false is = record {
          before = λ fd e i le lt. absurd (cc);
          none = λ e i le. elim (cases_lt (i - from) (position_or_len (λ o. goes_in free o) (drop from clients))) [
            | inl lt ↦ none-before free clients from i le lt
            | inr past ↦
                (let long = length-drop from clients in
                let all : length (drop from clients) ≤ position_or_len (λ o. goes_in free o) (drop from clients) =
                grind (arith, nat_tests, is) in
                ap (λ (o : Option Client). goes_in free o) (none-in clients i (omega (arith, long, all, past, le))))
          ];
        }

-- a client that may not take a turn, as it waits for a worker, has no request that could begin
passed-awaits : (free : Bool) (c : Conn) (run : Option Running) (script : List ℕ)
    → may_go free (record { conn = c; run = run; script = script }) ≡ false
    → IsAwaiting (record { conn = c; run = run; script = script })
passed-awaits true c None script passed = absurd (cc (passed))
passed-awaits false c None script passed = absurd (cc (passed))
passed-awaits free c (Some y) script passed = tt

blocks-none : (m : State) (by workers : ℕ) (clients : List (Option Client)) (i : ℕ)
    → goes_in (has_free workers clients) (in_place clients i) ≡ false
    → BlocksAt m by workers clients i
blocks-none m by workers clients i none x is =
    let passed : may_go (has_free workers clients) x ≡ false =
    ap (λ (o : Option Client). goes_in (has_free workers clients) o) (sym is) ∙ none in
    (passed-awaits (has_free workers clients) x.conn x.run x.script passed, inl passed)

-- While the server polls, the reply changes no client.
pub filed-same : (waits : WaitLaw) (m : State) (by : ℕ) (s : Server) (l : Reply) (received : List ℕ)
    → IsPolling m by s l → filed s.workers s.clients s.pending_call l received ≡ s.clients
filed-same waits m by s l received (inl y) = ap (λ w. filed s.workers s.clients w l received) y.0
filed-same waits m by s l received (inr b) = ap (λ (r : Reply). filed s.workers s.clients s.pending_call r received) b.0
    ∙ at s.pending_call b.1
  where
    at : (w : PendingCall) → BlockUpTo m by s.workers s.clients w
        → filed s.workers s.clients w (reply.Refused no.WouldBlock) received ≡ s.clients
    at Nothing up = absurd up
    at Accepting up = refl
    at (At fd) up = filed-at waits m by s.workers fd s.clients received (up fd (omega arith))

-- The next place to poll: the calls of all places before it would block. Or there is none, since all would block.
pub record From (m : State) (by workers : ℕ) (clients : List (Option Client)) (next : PendingCall) : Type 0 where
  pub place : ℕ
  pub known : (i : ℕ) → i < place → BlocksAt m by workers clients i
  pub is : next ≡ pending_call_from workers clients place

pub record Nowhere (m : State) (by workers : ℕ) (clients : List (Option Client)) (next : PendingCall) : Type 0 where
  pub all : AllBlock m by workers clients
  pub is : next ≡ Nothing

looks : (m : State) (by : ℕ) (s : Server) (l : Reply) → IsPolling m by s l
    → From m by s.workers s.clients (next_pending_call s.workers s.clients s.pending_call l)
    ⊎ Nowhere m by s.workers s.clients (next_pending_call s.workers s.clients s.pending_call l)
looks m by s l (inl y) =
    inl (record {
      place = 0;
      known = λ i lt. absurd (omega (arith, lt));
      is = ap (λ w. next_pending_call s.workers s.clients w l) y.0;
    })
looks m by s l (inr b) =
    subst (λ (r : Reply). From m by s.workers s.clients (next_pending_call s.workers s.clients s.pending_call r)
    ⊎ Nowhere m by s.workers s.clients (next_pending_call s.workers s.clients s.pending_call r)) (sym b.0)
    (at s.pending_call b.1)
  where
    at : (w : PendingCall) → BlockUpTo m by s.workers s.clients w
        → From m by s.workers s.clients (next_pending_call s.workers s.clients w (reply.Refused no.WouldBlock))
        ⊎ Nowhere m by s.workers s.clients (next_pending_call s.workers s.clients w (reply.Refused no.WouldBlock))
    at Nothing up = absurd up
    at Accepting up = inr (record { all = up; is = refl })
    at (At fd) up =
        inl (record { place = fd + 1; known = λ i lt. up i (omega (arith, lt)); is = after (in_place s.clients fd) })
      where
        after : (o : Option Client)
            → pending_call_from s.workers s.clients (if leaves_off o (reply.Refused no.WouldBlock) then fd + 1 else fd)
            ≡ pending_call_from s.workers s.clients (fd + 1)
        after None = refl
        after (Some x) = refl

-- a turn that yields picks no client
yielded : (workers : ℕ) (clients : List (Option Client)) (t : Server)
    → Picks workers clients t.pending_call turn.Yield t.clients
    → (t.clients ≡ clients) × (t.pending_call ≡ Nothing)
yielded workers clients t picks = by t.pending_call refl picks
  where
    by : (w : PendingCall) → t.pending_call ≡ w → Picks workers clients w turn.Yield t.clients
        → (t.clients ≡ clients) × (t.pending_call ≡ Nothing)
    by Nothing is did = (did.0, is)
    by Accepting is did = (let bad = did.1 in absurd (cc (bad)))
    by (At fd) is did = (let bad = did.call_is in absurd (cc (bad)))

-- A turn while the server polls.
module _ (waits : WaitLaw) (m : State) (by : ℕ) (s t : Server) (l : Reply) (readable : ℕ → Option (List ℕ))
    (polls : IsPolling m by s l) (next : in_rounds s.workers (filed_in s l readable) s.pending_call l t.pending_call)
  where
    conns-are : filed_in s l readable ≡ s.clients
    conns-are = filed-same waits m by s l (received_of l readable) polls

    next-is : t.pending_call ≡ next_pending_call s.workers s.clients s.pending_call l
    next-is = next ∙ ap (λ (xs : List (Option Client)). next_pending_call s.workers xs s.pending_call l) conns-are

    -- if no client from `k` on may take a turn, and the calls of all places before `k` would block, all would block
    all-of : (k : ℕ) → ((i : ℕ) → i < k → BlocksAt m by s.workers s.clients i) → next_place s.workers s.clients k ≡ None
        → (i : ℕ)
        → BlocksAt m by s.workers s.clients i
    all-of k known none i =
        elim (cases_lt i k) [
          | inl lt ↦ known i lt
          | inr le ↦
              blocks-none m by s.workers s.clients i ((found s.workers s.clients k).none none i le)
        ]

    -- a call that would block
    abbrev Blocks : Type 0
    Blocks = (t.clients ≡ s.clients) × BlockUpTo m by s.workers s.clients t.pending_call

    blocks-at : (c : Call) (fd : ℕ) → WouldWait m by c → PicksAt s.workers s.clients fd (turn.Make c) t.clients
        → (t.clients ≡ s.clients) × BlocksAt m by s.workers s.clients fd
    blocks-at c fd step did =
        let scripts = runs_scripts s.workers in
        let c_is : c ≡ next_call scripts fd did.ready = ap (λ (z : Turn). called_in z c) did.call_is in
        let waiting : WouldWait m by (next_call scripts fd did.ready) =
        subst (λ (z : Call). WouldWait m by z) c_is step in
        let ready = ready-blocked waits m by fd scripts did.was.conn did.was.run did.was.script did.ready did.readies
        waiting in (
          did.after_is
              ∙ (ap (λ (y : Client). with_at s.clients fd (Some y)) ready.0
              ∙ same-there s.clients fd did.was did.there),
          λ x is. (let same : did.was ≡ x = some-inj did.was x (sym did.there ∙ is) in
              let both : IsAwaiting did.ready × WouldWait m by (next_call scripts fd did.ready) = (ready.1, waiting) in
              let on : IsAwaiting x × WouldWait m by (next_call scripts fd x) =
              subst (λ (y : Client). IsAwaiting y × WouldWait m by (next_call scripts fd y)) (ready.0 ∙ same) both in
              (on.0, inr on.1)),
        )

    blocks-on : (c : Call) → Picks s.workers (filed_in s l readable) t.pending_call (turn.Make c) t.clients
        → WouldWait m by c → Blocks
    blocks-on c picks step = elim (looks m by s l polls) [
      | inr nowhere ↦ absurd (let did : (t.clients ≡ s.clients) × (turn.Make c ≡ turn.Yield) =
          subst (λ (w : PendingCall). Picks s.workers s.clients w (turn.Make c) t.clients) (next-is ∙ nowhere.is)
          here in
          let bad = did.1 in cc (bad))
      | inl from ↦ at from.place from.known (next_place s.workers s.clients from.place) refl (next-is ∙ from.is)
    ]
      where
        here : Picks s.workers s.clients t.pending_call (turn.Make c) t.clients
        here = subst (λ (xs : List (Option Client)). Picks s.workers xs t.pending_call (turn.Make c) t.clients)
            conns-are
            picks

        at : (k : ℕ) → ((i : ℕ) → i < k → BlocksAt m by s.workers s.clients i) → (o : Option ℕ)
            → next_place s.workers s.clients k ≡ o → t.pending_call ≡ pending_call_to s.clients o → Blocks
        at k known (Some fd) is w =
            let did =
            blocks-at c fd step (subst (λ (f : PendingCall). Picks s.workers s.clients f (turn.Make c) t.clients) w
            here) in (
              did.0,
              subst (λ (f : PendingCall). BlockUpTo m by s.workers s.clients f) (sym w)
                  (λ i le. elim (cases_order i fd) [
                    | inl same ↦ subst (λ z. BlocksAt m by s.workers s.clients z) (sym same) did.1
                    | inr rest ↦ elim rest [
                      | inl lt ↦
                          elim (cases_lt i k) [
                            | inl before ↦ known i before
                            | inr more ↦
                                blocks-none m by s.workers s.clients i
                                ((found s.workers s.clients k).before fd is i more lt)
                          ]
                      | inr gt ↦ absurd (omega (arith, gt, le))
                    ]
                  ]),
            )
        at k known None is w = past (nat_lt (taken s.clients) most_conns) w
          where
            past : (b : Bool) → t.pending_call ≡ (if b then Accepting else Nothing) → Blocks
            past true w =
                let did : (t.clients ≡ s.clients) × (turn.Make c ≡ turn.Make call.Accept) =
                subst (λ (f : PendingCall). Picks s.workers s.clients f (turn.Make c) t.clients) w here in
                let c_is : c ≡ call.Accept = ap (λ (z : Turn). called_in z c) did.1 in (
                  did.0,
                  subst (λ (f : PendingCall). BlockUpTo m by s.workers s.clients f) (sym w)
                      (record {
                        places = all-of k known is;
                        accept_step = inr (subst (λ (z : Call). WouldWait m by z) c_is step);
                      }),
                )
            past false w = absurd (let did : (t.clients ≡ s.clients) × (turn.Make c ≡ turn.Yield) =
                subst (λ (f : PendingCall). Picks s.workers s.clients f (turn.Make c) t.clients) w here in let bad =
                did.1 in cc (bad))

    -- a yield: the calls of all places would block
    yields-on : Picks s.workers (filed_in s l readable) t.pending_call turn.Yield t.clients
        → (t.clients ≡ s.clients) × AllBlock m by s.workers s.clients
    yields-on picks = (
      did.0,
      elim (looks m by s l polls) [
        | inr nowhere ↦ nowhere.all
        | inl from ↦ at from.place from.known (next_place s.workers s.clients from.place) refl (sym did.1
            ∙ (next-is ∙ from.is))
      ],
    )
      where
        did : (t.clients ≡ s.clients) × (t.pending_call ≡ Nothing)
        did =
            yielded s.workers s.clients t
            (subst (λ (xs : List (Option Client)). Picks s.workers xs t.pending_call turn.Yield t.clients) conns-are
            picks)

        at : (k : ℕ) → ((i : ℕ) → i < k → BlocksAt m by s.workers s.clients i) → (o : Option ℕ)
            → next_place s.workers s.clients k ≡ o → Nothing ≡ pending_call_to s.clients o
            → AllBlock m by s.workers s.clients
        at k known (Some fd) is w = absurd (cc (w))
        at k known None is w = past (nat_lt (taken s.clients) most_conns) refl w
          where
            past : (b : Bool) → nat_lt (taken s.clients) most_conns ≡ b
                → Nothing ≡ (if b then Accepting else Nothing) → AllBlock m by s.workers s.clients
            past true full w = absurd (cc (w))
            past false full w = record { places = all-of k known is; accept_step = inl full }

-- The server's transition relation preserves its condition.

stays-two : (n : ℕ) → more_of_two (suc (suc n)) ≡ suc (suc n)
stays-two n = grind (arith, nat_tests)

module _ (waits : WaitLaw) where
  all-on : (m : State) (by : ℕ) (s t : Server) → t.clients ≡ s.clients → t.workers ≡ s.workers
      → AllBlock m by s.workers s.clients → AllBlock m by t.workers t.clients
  all-on m by s t same hired all =
      subst (λ k. AllBlock m by k t.clients) (sym hired)
      (subst (λ (xs : List (Option Client)). AllBlock m by s.workers xs) (sym same) all)

  up-on : (m : State) (by : ℕ) (s t : Server) → t.clients ≡ s.clients → t.workers ≡ s.workers
      → BlockUpTo m by s.workers s.clients t.pending_call
      → BlockUpTo m by t.workers t.clients t.pending_call
  up-on m by s t same hired up =
      subst (λ k. BlockUpTo m by k t.clients t.pending_call) (sym hired)
      (subst (λ (xs : List (Option Client)). BlockUpTo m by s.workers xs t.pending_call) (sym same) up)

  server_blocks : (n by : ℕ) (s t : Server) (l : Reply) (m : State) (c : Call)
      → server_quiescent n by s l m → server_turns in_rounds s l (λ a. readable_to m by a) (turn.Make c) t
      → WouldWait m by c → server_quiescent n by t (reply.Refused no.WouldBlock) m
  server_blocks zero by s t l m c quiescent goes step = tt
  server_blocks (suc zero) by s t l m c quiescent goes step =
      let did = blocks-on waits m by s t l (λ a. readable_to m by a) quiescent goes.0 c goes.1 step in
      inr (refl, up-on m by s t did.0 goes.2 did.1)
  server_blocks (suc (suc n)) by s t l m c quiescent goes step =
      let did = blocks-on waits m by s t l (λ a. readable_to m by a) quiescent.0 goes.0 c goes.1 step in
      (inr (refl, up-on m by s t did.0 goes.2 did.1), all-on m by s t did.0 goes.2 quiescent.1)

  server_yields : (n by : ℕ) (s t : Server) (l : Reply) (m : State) → server_quiescent n by s l m
      → server_turns in_rounds s l (λ a. readable_to m by a) turn.Yield t
      → server_quiescent (more_of_two n) by t reply.Done m
  server_yields n by s t l m quiescent goes = at n quiescent
    where
      new : HasYielded t reply.Done
      new = ((yielded s.workers (filed_in s l (λ a. readable_to m by a)) t goes.1).1, refl)

      at : (n : ℕ) → server_quiescent n by s l m → server_quiescent (more_of_two n) by t reply.Done m
      at zero quiescent = inl new
      at (suc zero) quiescent =
          (let did = yields-on waits m by s t l (λ a. readable_to m by a) quiescent goes.0 goes.1 in
          (inl new, all-on m by s t did.0 goes.2 did.1))
      at (suc (suc n)) quiescent =
          let did = yields-on waits m by s t l (λ a. readable_to m by a) quiescent.0 goes.0 goes.1 in
          let two : server_quiescent (suc (suc n)) by t reply.Done m = (inl new, all-on m by s t did.0 goes.2 did.1) in
          subst (λ k. server_quiescent k by t reply.Done m) (sym (stays-two n)) two

  -- likewise for all processes
  pub actor_quiesces : {W : Type 0} (works : TransitionRelation W) (Quiescent : Claim W) → Quiesces Quiescent works
      → Quiesces (actor_quiescent Quiescent) (actor_turns in_rounds works)
  actor_quiesces {W = W} works Quiescent workers = record {
    first = λ by p l m. first by p l m;
    blocks = λ n by p q l m c quiescent goes step. blocks n by p q l m c quiescent goes step;
    yields = λ n by p q l m quiescent goes. yields n by p q l m quiescent goes;
  }
    where
      first : (by : ℕ) (p : Actor W) (l : Reply) (m : State) → actor_quiescent Quiescent 0 by p l m
      first by (Serving s) l m = tt
      first by (Working w) l m = workers.first by w l m

      blocks : (n by : ℕ) (p q : Actor W) (l : Reply) (m : State) (c : Call)
          → actor_quiescent Quiescent n by p l m
          → actor_goes in_rounds works p l (λ a. readable_to m by a) (turn.Make c) q → WouldWait m by c
          → actor_quiescent Quiescent n by q (reply.Refused no.WouldBlock) m
      blocks n by (Serving s) (Serving t) l m c quiescent goes step = server_blocks n by s t l m c quiescent goes step
      blocks n by (Working w) (Working v) l m c quiescent goes step = workers.blocks n by w v l m c quiescent goes step
      blocks n by (Serving s) (Working v) l m c quiescent goes step = absurd goes
      blocks n by (Working w) (Serving t) l m c quiescent goes step = absurd goes

      yields : (n by : ℕ) (p q : Actor W) (l : Reply) (m : State) → actor_quiescent Quiescent n by p l m
          → actor_goes in_rounds works p l (λ a. readable_to m by a) turn.Yield q
          → actor_quiescent Quiescent (more_of_two n) by q reply.Done m
      yields n by (Serving s) (Serving t) l m quiescent goes = server_yields n by s t l m quiescent goes
      yields n by (Working w) (Working v) l m quiescent goes = workers.yields n by w v l m quiescent goes
      yields n by (Serving s) (Working v) l m quiescent goes = absurd goes
      yields n by (Working w) (Serving t) l m quiescent goes = absurd goes
