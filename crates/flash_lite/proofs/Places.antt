-- Indices, and the choice among them.
use Rattle.std.proofs.Common.{◌≡◌, ℕ, zero, suc, ◌+◌, ◌-◌, ◌<◌, ◌≤◌, List, [], ◌∷◌, ◌++◌, length, drop, ap, ◌∙◌}
use Rattle.std.proofs.Common.{append-nil, add-one, arith, Option, Some, None, Bool, true, false, sym, refl, subst}
use Rattle.std.proofs.Common.{if◌then◌else◌}
use Rattle.std.specs.Prelude.{replicate, slice_set, position, option_map, nat_lt}
use Rattle.std.specs.List.{position_or_len}
use Rattle.std.proofs.lemmas.Bool.Decides.{nat_tests}
use Rattle.std.proofs.lemmas.List.Sums.{passes_at_first}
use Rattle.std.proofs.lemmas.List.{get_or-drop, get_or-set_other, set-set, length-set}
use Rattle.iol_core.specs.NumberedLists.{in_place, taken}
use Rattle.iol_core.specs.declared.events.Call.{Call}
use Rattle.iol_core.specs.declared.events.Reply.{Reply}
use Rattle.iol_proc.specs.declared.process.Turn.{Turn}
use Rattle.iol_proc.specs.declared.process.Turn.TheVariants as turn
use Rattle.flash_laws.specs.Client.{Client, after_reply, left_over}
use Rattle.flash_laws.specs.Site.Places.{first_free, has_free, may_go, runs_scripts, after_reply_at, filed}
use Rattle.flash_laws.specs.Conn.Policy.{accept_step, pending_call_to, most_conns}
use Rattle.flash_laws.specs.Serves.Rounds.{goes_in, leaves_off, pending_call_from, place_after}
use Rattle.flash_laws.specs.Serves.Rounds.{next_in}
use Rattle.flash_laws.specs.Serves.{Picks}
use Rattle.flash_laws.specs.Site.OtherConns.{with_at, left_by}
use Rattle.flash_laws.specs.declared.phase.Phase.{Phase}
use Rattle.flash_laws.specs.declared.phase.Phase.TheVariants.{Receiving, DroppingInput, Opening, Reading, ClosingFile}
use Rattle.flash_laws.specs.declared.phase.Phase.TheVariants.{Slicing as Picking, DroppingWhole}
use Rattle.flash_laws.specs.declared.phase.Phase.TheVariants.{MakingHead, Joining, SendingWhole, CuttingPiece}
use Rattle.flash_laws.specs.declared.phase.Phase.TheVariants.{SendingPiece, DroppingPiece, DroppingSent, AbortingPiece}
use Rattle.flash_laws.specs.declared.phase.Phase.TheVariants.{Aborting, Disconnecting, Closed}
use Rattle.flash_laws.specs.declared.phase.PendingCall.{PendingCall}
use Rattle.flash_laws.specs.declared.phase.PendingCall.TheVariants.{Nothing, Accepting, At}
use Rattle.flash_lite.specs.Course.{left_with, remains}
use Rattle.flash_lite.specs.ServerTurn.{AtAcceptStep, Makes, PicksFrom, accept_step_to, pending_call_by, left_as}
use Rattle.flash_lite.specs.ServerTurn.{left_at, most_with}
use Rattle.flash_lite.specs.declared.client.Left.{Left}
use Rattle.flash_lite.specs.declared.client.Left.TheVariants as left
use Rattle.flash_lite.proofs.Calls.FileCalls.{position-here}

-- ---- lists with a place set

pub at_within : (clients : List (Option Client)) (fd : ℕ) (x : Option Client) → fd < length clients
    → with_at clients fd x ≡ slice_set clients fd x
at_within clients fd x lt =
    let e : fd + 1 - length clients ≡ 0 = omega (arith, lt) in
    ap (λ k. slice_set (clients ++ replicate k None) fd x) e
    ∙ ap (λ (l : List (Option Client)). slice_set l fd x) (append-nil clients)

pub within : (clients : List (Option Client)) (fd : ℕ) (x : Client) → in_place clients fd ≡ Some x → fd < length clients
within [] fd x there = absurd (cc)
within (y ∷ clients) zero x there = omega arith
within (y ∷ clients) (suc fd) x there = let h = within clients fd x there in omega arith

set_there : (clients : List (Option Client)) (fd : ℕ) (x : Client) → in_place clients fd ≡ Some x
    → slice_set clients fd (Some x) ≡ clients
set_there [] fd x there = absurd (cc)
set_there (y ∷ clients) zero x there = ap (λ (z : Option Client). z ∷ clients) (sym there)
set_there (y ∷ clients) (suc fd) x there = ap (λ (l : List (Option Client)). y ∷ l) (set_there clients fd x there)

-- the same client in its place changes nothing
same-there : (clients : List (Option Client)) (fd : ℕ) (x : Client) → in_place clients fd ≡ Some x
    → with_at clients fd (Some x) ≡ clients
same-there clients fd x there = at_within clients fd (Some x) (within clients fd x there) ∙ set_there clients fd x there

pub set_same : (clients : List (Option Client)) (fd : ℕ) (x : Client) → in_place clients fd ≡ Some x
    → fd < length clients → slice_set clients fd (Some x) ≡ clients
set_same clients fd x there lt = set_there clients fd x there

-- a place is set twice
pub set_twice : (clients : List (Option Client)) (fd : ℕ) (x y : Option Client) → fd < length clients
    → slice_set clients fd y ≡ with_at (slice_set clients fd x) fd y
set_twice clients fd x y lt =
    let longer : fd < length (slice_set clients fd x) = omega (arith, lt, length-set clients fd x) in
    sym (at_within (slice_set clients fd x) fd y longer ∙ set-set clients fd x y)

-- ---- processing a reply, if the place has a client

-- the client after the reply, by the specification
abbrev pub after_reply_by : (workers : ℕ) → List (Option Client) → Client → Reply → (received : List ℕ) → Client
after_reply_by workers clients x r received =
    after_reply (runs_scripts workers) (first_free workers clients) x r received

pub filed_there : (workers : ℕ) (clients : List (Option Client)) (fd : ℕ) (x : Client) (r : Reply) (received : List ℕ)
    → in_place clients fd ≡ Some x → fd < length clients
    → filed workers clients (At fd) r received
    ≡ slice_set clients fd (left_over (after_reply_by workers clients x r received))
filed_there workers clients fd x r received there lt =
    ap (λ (o : Option Client). after_reply_at workers clients fd o r received) there
    ∙ at_within clients fd (left_over (after_reply_by workers clients x r received)) lt

pub filed_none : (workers : ℕ) (clients : List (Option Client)) (fd : ℕ) (r : Reply) (received : List ℕ)
    → in_place clients fd ≡ None
    → filed workers clients (At fd) r received ≡ clients
filed_none workers clients fd r received none =
    ap (λ (o : Option Client). after_reply_at workers clients fd o r received) none

pub filed_left : (workers : ℕ) (clients : List (Option Client)) (fd : ℕ) (x t : Client) (l : Left) (r : Reply)
    (received : List ℕ) → in_place clients fd ≡ Some x → fd < length clients
    → t ≡ after_reply_by workers clients x r received → t ≡ left_with x l → left_over t ≡ remains l t
    → filed workers clients (At fd) r received ≡ left_at clients fd l
filed_left workers clients fd x t l r received there lt after_reply_is with_is over =
    filed_there workers clients fd x r received there lt
    ∙ (ap (λ (z : Client). slice_set clients fd (left_over z)) (sym after_reply_is)
    ∙ (ap (λ (o : Option Client). slice_set clients fd o) over
    ∙ (ap (λ (z : Client). slice_set clients fd (remains l z)) with_is
    ∙ ap (λ (o : Option Client). slice_set clients fd (left_as o l)) (sym there))))

-- ---- the index that was found has a client

test_some : (i n k : ℕ) → (if nat_lt i n then Some i else None) ≡ Some k → (i < n) × (i ≡ k)
test_some i n k e = by (nat_lt i n) refl e
  where
    by : (b : Bool) → nat_lt i n ≡ b → (if b then Some i else None) ≡ Some k → (i < n) × (i ≡ k)
    by true lt e = (grind (arith, nat_tests, lt), cc)
    by false lt e = absurd (cc)

found_there : (free : Bool) (l : List (Option Client)) (k : ℕ) → position (λ o. goes_in free o) l ≡ Some k
    → goes_in free (in_place l k) ≡ true
found_there free l k e =
    let none : Option Client = None in
    let t = test_some (position_or_len (λ o. goes_in free o) l) (length l) k e in
    ap (λ (j : ℕ). goes_in free (in_place l j)) (sym t.1) ∙ passes_at_first (λ o. goes_in free o) l none t.0

found_past : (free : Bool) (clients : List (Option Client)) (from place : ℕ) (found : Option ℕ)
    → position (λ o. goes_in free o) (drop from clients) ≡ found
    → option_map (λ k. from + k) found ≡ Some place → (from ≤ place) × (goes_in free (in_place clients place) ≡ true)
found_past free clients from place None is e = absurd (cc)
found_past free clients from place (Some k) is e =
    let none : Option Client = None in
    let at : from + k ≡ place = cc in (
      omega (arith, at),
      ap (λ (j : ℕ). goes_in free (in_place clients j)) (sym at)
          ∙ (ap (λ (o : Option Client). goes_in free o) (sym (get_or-drop from clients k none))
          ∙ found_there free (drop from clients) k is),
    )

pub found_in : (free : Bool) (clients : List (Option Client)) (from place : ℕ) → next_in free clients from ≡ Some place
    → (from ≤ place) × (goes_in free (in_place clients place) ≡ true)
found_in free clients from place is =
    found_past free clients from place (position (λ o. goes_in free o) (drop from clients)) refl is

pub never_none : (free : Bool) (clients : List (Option Client)) (from place : ℕ)
    → Some place ≡ next_in free clients from → in_place clients place ≡ None → ⊥
never_none free clients from place is none =
    let yes : goes_in free (in_place clients place) ≡ true = (found_in free clients from place (sym is)).1 in
    let no_one : goes_in free (in_place clients place) ≡ false = ap (λ (o : Option Client). goes_in free o) none in
    absurd (cc)

pub accept_step_makes : (scripts : Bool) (clients : List (Option Client)) (from : ℕ) (pending_call : PendingCall)
    (made : Turn) → AtAcceptStep pending_call made → Makes scripts clients from pending_call made
accept_step_makes scripts clients from Nothing made at = at
accept_step_makes scripts clients from Accepting made at = at
accept_step_makes scripts clients from (At place) made at = absurd at

-- ---- the pick

-- two lists that are equal from an index on
pub record SameFrom (from : ℕ) (xs ys : List (Option Client)) : Type 0 where
  pub rest : drop from xs ≡ drop from ys
  pub each : (g : ℕ) → from ≤ g → in_place xs g ≡ in_place ys g

pub same_itself : (from : ℕ) (xs : List (Option Client)) → SameFrom from xs xs
same_itself from xs = record { rest = refl; each = λ g le. refl }

drop_set : {A : Type 0} (xs : List A) (i : ℕ) (x : A) → drop (suc i) (slice_set xs i x) ≡ drop (suc i) xs
drop_set [] zero x = refl
drop_set [] (suc i) x = refl
drop_set (y ∷ xs) zero x = refl
drop_set (y ∷ xs) (suc i) x = drop_set xs i x

pub same_left : (clients : List (Option Client)) (fd : ℕ) (o : Option Client)
    → SameFrom (fd + 1) (slice_set clients fd o) clients
same_left clients fd o =
    let none : Option Client = None in
    record {
      rest = subst (λ k. drop k (slice_set clients fd o) ≡ drop k clients) (sym (add-one fd)) (drop_set clients fd o);
      each = λ g le. get_or-set_other clients fd g o none (omega (arith, le));
    }

pub next-same : (free : Bool) (from : ℕ) (l clients : List (Option Client)) → SameFrom from l clients
    → next_in free l from ≡ next_in free clients from
next-same free from l clients same =
    ap (λ (rest : List (Option Client)). option_map (λ k. from + k) (position (λ o. goes_in free o) rest)) same.rest

goes-there : (free : Bool) (o : Option Client) (x : Client) → o ≡ Some x → goes_in free o ≡ true → may_go free x ≡ true
goes-there free o x is goes = ap (λ (z : Option Client). goes_in free z) (sym is) ∙ goes

pending_call-at : (clients : List (Option Client)) (most place : ℕ) (found : Option ℕ)
    → At place ≡ pending_call_by clients most found → found ≡ Some place
pending_call-at clients most place (Some g) is = let e : place ≡ g = cc in ap (λ k. Some k) (sym e)
pending_call-at clients most place None is = absurd (never (nat_lt (taken clients) most) is)
  where
    never : (b : Bool) → At place ≡ (if b then Accepting else Nothing) → ⊥
    never true is = cc (is)
    never false is = cc (is)

-- a pick from the clients before the reply is a pick from those after it, if these are equal from the index on
pub picks_filed : (workers : ℕ) (from most : ℕ) (clients l : List (Option Client)) (pending_call : PendingCall)
    (made : Turn) (after : List (Option Client)) → SameFrom from l clients
    → PicksFrom (runs_scripts workers) (has_free workers l) clients from most pending_call made → after ≡ l
    → Picks workers l pending_call made after
picks_filed workers from most clients l Nothing made after same p is = (is, p.makes)
picks_filed workers from most clients l Accepting made after same p is = (is, p.makes)
picks_filed workers from most clients l (At g) made after same p is =
    let found =
    found_in (has_free workers l) clients from g
    (pending_call-at clients most g (next_in (has_free workers l) clients from) p.pending_call_is) in
    let there : in_place l g ≡ Some p.makes.3.was = same.each g p.makes.0 ∙ p.makes.3.there in
    record {
      was = p.makes.3.was;
      ready = p.makes.3.was;
      there = there;
      readies = p.makes.3.ready;
      after_is = is ∙ sym (same-there l g p.makes.3.was there);
      goes = ap (λ (m : List (Option Client)). may_go (has_free workers m) p.makes.3.was) is
          ∙ goes-there (has_free workers l) (in_place clients g) p.makes.3.was p.makes.3.there found.1;
      call_is = p.makes.2 ∙ ap (λ (z : Call). turn.Make z) p.makes.3.call_is;
    }

pending_call-same : (clients l : List (Option Client)) (most : ℕ) (found : Option ℕ)
    → accept_step_to clients most ≡ accept_step l → pending_call_by clients most found ≡ pending_call_to l found
pending_call-same clients l most None e = e
pending_call-same clients l most (Some place) e = refl

pub pending_call_filed : (workers : ℕ) (from most : ℕ) (clients l : List (Option Client)) (pending_call : PendingCall)
    (made : Turn) → SameFrom from l clients → accept_step_to clients most ≡ accept_step l
    → PicksFrom (runs_scripts workers) (has_free workers l) clients from most pending_call made
    → pending_call ≡ pending_call_from workers l from
pending_call_filed workers from most clients l pending_call made same e p =
    p.pending_call_is
    ∙ (pending_call-same clients l most (next_in (has_free workers l) clients from) e
    ∙ ap (λ (o : Option ℕ). pending_call_to l o) (sym (next-same (has_free workers l) from l clients same)))

-- ---- the number of clients

pub taken_kept : (clients : List (Option Client)) (i : ℕ) (x y : Client) → in_place clients i ≡ Some x
    → taken (slice_set clients i (Some y)) ≡ taken clients
taken_kept [] i x y there = absurd (cc)
taken_kept (None ∷ l) zero x y there = absurd (cc)
taken_kept (Some z ∷ l) zero x y there = refl
taken_kept (None ∷ l) (suc i) x y there = taken_kept l i x y there
taken_kept (Some z ∷ l) (suc i) x y there = ap suc (taken_kept l i x y there)

taken_gone : (clients : List (Option Client)) (i : ℕ) (x : Client) → in_place clients i ≡ Some x
    → suc (taken (slice_set clients i None)) ≡ taken clients
taken_gone [] i x there = absurd (cc)
taken_gone (None ∷ l) zero x there = absurd (cc)
taken_gone (Some z ∷ l) zero x there = refl
taken_gone (None ∷ l) (suc i) x there = taken_gone l i x there
taken_gone (Some z ∷ l) (suc i) x there = ap suc (taken_gone l i x there)

lt_more : (a b n : ℕ) → suc a ≡ b → nat_lt b (n + 1) ≡ nat_lt a n
lt_more a b n e = grind (arith, nat_tests, e)

-- a client that is over leaves room for one more
pub accept_step_left : (clients : List (Option Client)) (fd : ℕ) (x : Client) (l : Left) → in_place clients fd ≡ Some x
    → accept_step_to clients (most_with l) ≡ accept_step (left_at clients fd l)
accept_step_left clients fd x l there =
    by l ∙ ap (λ (o : Option Client). accept_step (slice_set clients fd (left_as o l))) (sym there)
  where
    buffered : (z : Client) → accept_step_to clients most_conns ≡ accept_step (slice_set clients fd (Some z))
    buffered z = ap (λ k. if nat_lt k most_conns then Accepting else Nothing) (sym (taken_kept clients fd x z there))

    gone : accept_step_to clients (most_conns + 1) ≡ accept_step (slice_set clients fd None)
    gone =
        ap (λ b. if b then Accepting else Nothing)
        (lt_more (taken (slice_set clients fd None)) (taken clients) most_conns (taken_gone clients fd x there))

    going : (d : Phase) (z : Client)
        → accept_step_to clients (most_with (left.Goes d)) ≡ accept_step (slice_set clients fd (left_by d z))
    going Closed z = gone
    going Receiving z = buffered z
    going (DroppingInput a) z = buffered z
    going Opening z = buffered z
    going (Reading f) z = buffered z
    going (ClosingFile f k) z = buffered z
    going (Picking a from to len) z = buffered z
    going (DroppingWhole a k) z = buffered z
    going (MakingHead k) z = buffered z
    going (Joining a size body len) z = buffered z
    going (SendingWhole s) z = buffered z
    going (CuttingPiece s) z = buffered z
    going (SendingPiece s piece) z = buffered z
    going (DroppingPiece s piece) z = buffered z
    going (DroppingSent a taken more) z = buffered z
    going (AbortingPiece piece a more) z = buffered z
    going (Aborting a more) z = buffered z
    going Disconnecting z = buffered z

    same : (d : Phase) → most_with (left.Ends d) ≡ most_with (left.Goes d)
    same Closed = refl
    same d = refl

    by : (l : Left)
        → accept_step_to clients (most_with l) ≡ accept_step (slice_set clients fd (remains l (left_with x l)))
    by (left.Goes d) = going d (left_with x (left.Goes d))
    by (left.Ends d) = ap (λ k. accept_step_to clients k) (same d) ∙ going d (left_with x (left.Ends d))
    by left.Begins = buffered (left_with x left.Begins)
    by (left.Continues d) = buffered (left_with x (left.Continues d))
    by left.Stays = buffered x

-- ---- the policy

-- if a client's turn passes to the next, the next place follows
pub place_off : (fd : ℕ) (o : Option Client) (r : Reply) → leaves_off o r ≡ true → place_after fd o r ≡ fd + 1
place_off fd o r e = ap (λ b. if b then fd + 1 else fd) e

pub place_on : (fd : ℕ) (o : Option Client) (r : Reply) → leaves_off o r ≡ false → place_after fd o r ≡ fd
place_on fd o r e = ap (λ b. if b then fd + 1 else fd) e

drop-there : (clients : List (Option Client)) (fd : ℕ) (x : Client) → in_place clients fd ≡ Some x
    → drop fd clients ≡ Some x ∷ drop (suc fd) clients
drop-there [] fd x there = absurd (cc)
drop-there (o ∷ l) zero x there = ap (λ (z : Option Client). z ∷ l) there
drop-there (o ∷ l) (suc i) x there = drop-there l i x there

-- if the client at an index may take its turn, it is the first from its index on
pub next_there : (workers : ℕ) (clients : List (Option Client)) (fd : ℕ) (x : Client) → in_place clients fd ≡ Some x
    → may_go (has_free workers clients) x ≡ true
    → pending_call_from workers clients fd ≡ At fd
next_there workers clients fd x there may =
    let e : fd + 0 ≡ fd = omega arith in
    let first : position (λ o. goes_in (has_free workers clients) o) (drop fd clients) ≡ Some 0 =
    ap (λ (l : List (Option Client)). position (λ o. goes_in (has_free workers clients) o) l)
    (drop-there clients fd x there)
    ∙ position-here (λ o. goes_in (has_free workers clients) o) (Some x) (drop (suc fd) clients) may in
    ap (λ (o : Option ℕ). pending_call_to clients (option_map (λ k. fd + k) o)) first ∙ ap (λ (k : ℕ). At k) e
