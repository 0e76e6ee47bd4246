-- The bytes and the connections of a client, step by step.
use Rattle.std.proofs.Common.{◌≡◌, ◌∙◌, ◌≤◌, ◌-◌, ℕ, Bool, false, List, [], ◌∷◌, ◌++◌, length, take}
use Rattle.std.proofs.Common.{drop, map, Option, None, Some, refl, sym, ap, subst, arith, append_assoc, append-nil}
use Rattle.std.specs.List.{AllByRecursion, concat}
use Rattle.std.proofs.Math.Seq.{take-length}
use Rattle.std.proofs.lemmas.List.{length-append, length-take, take-append-drop, take-append-le, take_min}
use Rattle.iol_system.specs.Machine.{SystemState}
use Rattle.iol_proc.specs.Turns.{TransitionRelation}
use Rattle.iol_proc.specs.World.{WorldState}
use Rattle.iol_reactor.specs.Bytes.{IsGiven}
use Rattle.iol_reactor.specs.Clients.{AreWhole, BytesMove, ConnectionsFollow, Holds, IsAsking, IsDone, IsLeft}
use Rattle.iol_reactor.specs.Clients.{Request, Visit, WereLeft, bytes_of}
use Rattle.iol_reactor.specs.LinkVisits.{HasLinkVisited, IsOverIn, IsVisitOf, LinkProceeds, Serving}
use Rattle.iol_reactor.specs.LinkVisits.{world_of}
use Rattle.iol_reactor.specs.declared.input.Input.{Input}
use Rattle.iol_reactor.specs.declared.links.Link.{Link}
use Rattle.iol_reactor.specs.declared.service.Frame.{Frame}
use Rattle.iol_reactor.specs.declared.service.Frame.TheVariants.{Complete}

-- ---- the bytes

holds_read : (pc ps came sent waiting unsent supplied accepted more : List ℕ)
    → Holds pc ps came sent waiting unsent supplied accepted
    → Holds pc ps came sent (waiting ++ more) unsent (supplied ++ more) accepted
holds_read pc ps came sent waiting unsent supplied accepted more h = record {
  received = ap (λ (l : List ℕ). l ++ more) h.received
      ∙ (append_assoc pc (came ++ waiting) more ∙ ap (λ (l : List ℕ). pc ++ l) (append_assoc came waiting more));
  produced = h.produced;
}

holds_sent : (pc ps came sent waiting left supplied accepted more : List ℕ)
    → Holds pc ps came sent waiting [] supplied accepted
    → Holds pc ps came (sent ++ (more ++ left)) waiting left supplied (accepted ++ more)
holds_sent pc ps came sent waiting left supplied accepted more h = record {
  received = h.received;
  produced = sym (append_assoc ps sent (more ++ left))
      ∙ (ap (λ (l : List ℕ). l ++ (more ++ left)) (h.produced ∙ append-nil accepted)
      ∙ sym (append_assoc accepted more left));
}

pub bytes_move : BytesMove
bytes_move = record {
  none = record { received = refl; produced = refl };
  read = λ pc ps came sent waiting unsent supplied accepted more h. holds_read pc ps came sent waiting unsent supplied
      accepted more h;
  flushed = λ pc ps came sent waiting left supplied accepted more h. record {
    received = h.received;
    produced = h.produced ∙ sym (append_assoc accepted more left);
  };
  handed = λ pc ps came sent waiting unsent supplied accepted more h. record {
    received = h.received ∙ ap (λ (l : List ℕ). pc ++ l) (sym (append_assoc came more waiting));
    produced = h.produced;
  };
  sent = λ pc ps came sent waiting left supplied accepted more h. holds_sent pc ps came sent waiting left supplied
      accepted more h;
  left = λ pc ps came sent waiting unsent supplied accepted h. record {
    received = h.received ∙ sym (append_assoc pc came waiting);
    produced = append-nil (ps ++ sent) ∙ h.produced;
  };
}

-- ---- lists

joined : {X : Type 0} (f : X → List ℕ) (xs : List X) (x : X) → concat (map f (xs ++ x ∷ [])) ≡ concat (map f xs) ++ f x
joined f [] x = append-nil (f x)
joined f (y ∷ ys) x = ap (λ (l : List ℕ). f y ++ l) (joined f ys x) ∙ sym (append_assoc (f y) (concat (map f ys)) (f x))

all_more : {X : Type 0} (Q : X → Type 0) (xs : List X) (x : X) → AllByRecursion Q xs → Q x
    → AllByRecursion Q (xs ++ x ∷ [])
all_more Q [] x all last = (last, tt)
all_more Q (y ∷ ys) x all last = (all.0, all_more Q ys x all.1 last)

take_grown : (n m : ℕ) (xs ys more : List ℕ) → m ≡ n → ys ≡ xs ++ more → n ≤ length xs → take m ys ≡ take n xs
take_grown n m xs ys more same grown within = ap (λ k. take k ys) same
    ∙ (ap (λ (l : List ℕ). take n l) grown ∙ take-append-le n xs more within)

-- the first n of the first m bytes are the first n bytes
take_front : (n m : ℕ) (xs : List ℕ) → n ≤ m → m ≤ length xs → take n (take m xs) ≡ take n xs
take_front n m xs less within =
    sym (take-append-le n (take m xs) (drop m xs) (omega (arith, less, within, length-take m xs)))
    ∙ ap (λ (l : List ℕ). take n l) (take-append-drop m xs)

-- the first part of a list that is in two parts
take_part : (n : ℕ) (xs first rest : List ℕ) → xs ≡ first ++ rest → n ≡ length first → take n xs ≡ first
take_part n xs first rest split count = ap (λ k. take k xs) count
    ∙ (ap (λ (l : List ℕ). take (length first) l) split
    ∙ (take-append-le (length first) first rest (omega arith) ∙ take-length first))

-- of the first `asked` bytes, those after the first `given` are `more` and a rest
pub given_more : (asked given now : ℕ) (bytes more rest : List ℕ) → asked ≤ length bytes → given ≤ asked
    → drop given (take asked bytes) ≡ more ++ rest → now ≡ asked - length rest
    → take now bytes ≡ take given bytes ++ more
given_more asked given now bytes more rest within less split place =
    sym (take_front now asked bytes (omega (arith, place)) within)
    ∙ take_part now (take asked bytes) (take given bytes ++ more) rest whole count
  where
    front : take given (take asked bytes) ≡ take given bytes
    front = take_front given asked bytes less within

    whole : take asked bytes ≡ (take given bytes ++ more) ++ rest
    whole = sym (take-append-drop given (take asked bytes))
        ∙ (ap (λ (l : List ℕ). l ++ drop given (take asked bytes)) front
        ∙ (ap (λ (l : List ℕ). take given bytes ++ l) split ∙ sym (append_assoc (take given bytes) more rest)))

    count : now ≡ length (take given bytes ++ more)
    count = (
        let size : length (take asked bytes) ≡ length ((take given bytes ++ more) ++ rest) = ap length whole in
        omega (arith, place, size, length-append (take given bytes ++ more) rest, length-take asked bytes, within))

-- ---- the connections

module _ {P : Type 0} (turns : TransitionRelation P) (starts : WorldState SystemState P → Type 0) (frames : List ℕ
    → Frame
    → Type 0) (pool : ℕ) where
  whole_more : (before came : List ℕ) (r : Request) → AreWhole turns starts frames pool before
      → frames r.waiting (Complete r.size) → came ≡ before ++ bytes_of r → AreWhole turns starts frames pool came
  whole_more before came r whole framed are = record {
    requests = whole.requests ++ r ∷ [];
    kept = all_more (λ q. frames q.waiting (Complete q.size)) whole.requests r whole.kept framed;
    are = are ∙ (ap (λ (l : List ℕ). l ++ bytes_of r) whole.are ∙ sym (joined bytes_of whole.requests r));
  }

  left_more : (came sent : List ℕ) (v : Visit P) → WereLeft turns starts frames pool came sent
      → IsLeft turns starts frames pool v → WereLeft turns starts frames pool (came ++ v.came) (sent ++ v.sent)
  left_more came sent v were is = record {
    visits = were.visits ++ v ∷ [];
    left = all_more (IsLeft turns starts frames pool) were.visits v were.left is;
    comes = ap (λ (l : List ℕ). l ++ v.came) were.comes ∙ sym (joined (λ (u : Visit P). u.came) were.visits v);
    goes = ap (λ (l : List ℕ). l ++ v.sent) were.goes ∙ sym (joined (λ (u : Visit P). u.sent) were.visits v);
  }

  asking_read : (s : Serving P) (l : Link) (is_last : Bool) (input after : Input) (came sent more : List ℕ)
      → after.bytes.items ≡ input.bytes.items ++ more → after.asked ≡ input.asked → after.given ≡ input.given
      → IsAsking turns starts frames pool s l is_last input came sent
      → IsAsking turns starts frames pool s l is_last after came sent
  asking_read s l is_last input after came sent more grown asked given a = record {
    visited = a.visited;
    before = a.before;
    whole = a.whole;
    request = a.request;
    framed = a.framed;
    first =
        a.first
        ∙ sym (take_grown input.asked after.asked input.bytes.items after.bytes.items more asked grown a.within);
    within = (let count : length after.bytes.items ≡ length (input.bytes.items ++ more) = ap length grown in
        omega (arith, a.within, asked, count, length-append input.bytes.items more));
    given = omega (arith, a.given, asked, given);
    part =
        a.part
        ∙ ap (λ (k : List ℕ). a.before ++ k)
        (sym (take_grown input.given after.given input.bytes.items after.bytes.items more given grown
        (omega (arith, a.within, a.given))));
  }

  asking_handed : (s after : Serving P) (l : Link) (is_last : Bool) (input next : Input) (came sent more rest : List ℕ)
      → drop input.given (take input.asked input.bytes.items) ≡ more ++ rest → IsGiven (length rest) input next
      → LinkProceeds turns starts pool l more [] false s after
      → IsAsking turns starts frames pool s l is_last input came sent
      → IsAsking turns starts frames pool after l is_last next (came ++ more) sent
  asking_handed s after l is_last input next came sent more rest split is goes a = record {
    visited = subst (λ (k : List ℕ). HasLinkVisited turns starts pool after l (came ++ more) k false) (append-nil sent)
        (goes.own came sent false a.visited);
    before = a.before;
    whole = a.whole;
    request = a.request;
    framed = a.framed;
    first =
        a.first
        ∙ (ap (λ k. take k input.bytes.items) (sym is.asked) ∙ ap (λ (k : List ℕ). take next.asked k) (sym is.bytes));
    within = (let count : length next.bytes.items ≡ length input.bytes.items = ap length is.bytes in
        omega (arith, a.within, is.asked, count));
    given = omega (arith, is.given, is.asked);
    part = ap (λ (k : List ℕ). k ++ more) a.part ∙ (append_assoc a.before (take input.given input.bytes.items) more
        ∙ ap (λ (k : List ℕ). a.before ++ k)
        (sym (given_more input.asked input.given next.given input.bytes.items more rest a.within a.given split
        is.given) ∙ ap (λ (k : List ℕ). take next.given k) (sym is.bytes)));
  }

  -- the connection is over in its world
  over_in : (w : Option (WorldState SystemState P)) (c : ℕ) (came sent : List ℕ) → IsOverIn w c
      → IsVisitOf turns starts pool w c came sent false
      → (u : WorldState SystemState P)
      × IsDone turns starts frames pool (record { world = u; conn = c; came = came; sent = sent })
  over_in None c came sent over v = absurd over
  over_in (Some w) c came sent over v = (w, record { visited = v; over = over })

  pub connections_follow : ConnectionsFollow turns starts frames pool
  connections_follow = record {
    none = record { visits = []; left = tt; comes = refl; goes = refl };
    more = λ came sent v were is. left_more came sent v were is;
    first = λ s l v. record { visited = v; whole = record { requests = []; kept = tt; are = refl } };
    open_stays = λ s after l came sent up stay o. record {
      visited = stay l came sent false up o.visited;
      whole = o.whole;
    };
    asking_stays = λ s after l is_last input came sent up stay a. record {
      visited = stay l came sent false up a.visited;
      before = a.before;
      whole = a.whole;
      request = a.request;
      framed = a.framed;
      first = a.first;
      within = a.within;
      given = a.given;
      part = a.part;
    };
    begun = λ s l is_last input after came sent size framed is o. record {
      visited = o.visited;
      before = came;
      whole = o.whole;
      request = record { waiting = input.bytes.items; size = size };
      framed = framed;
      first = sym (take_min size input.bytes.items)
          ∙ (ap (λ k. take k input.bytes.items) (sym is.asked)
          ∙ ap (λ (k : List ℕ). take after.asked k) (sym is.bytes));
      within = (let count : length after.bytes.items ≡ length input.bytes.items = ap length is.bytes in
          omega (arith, is.asked, count));
      given = omega (arith, is.given);
      part = sym (append-nil came) ∙ ap (λ (k : List ℕ). came ++ k) (ap (λ k. take k after.bytes.items) (sym is.given));
    };
    read = λ s l is_last input after came sent more grown asked given a. asking_read s l is_last input after came sent
        more grown asked given a;
    handed = λ s after l is_last input next came sent more rest split is goes a. asking_handed s after l is_last input
        next came sent more rest split is goes a;
    sends = λ s after l is_last input came sent more goes a. record {
      visited = subst (λ (k : List ℕ). HasLinkVisited turns starts pool after l k (sent ++ more) false)
          (append-nil came) (goes.own came sent false a.visited);
      before = a.before;
      whole = a.whole;
      request = a.request;
      framed = a.framed;
      first = a.first;
      within = a.within;
      given = a.given;
      part = a.part;
    };
    open_sends = λ s after l came sent more goes o. record {
      visited = subst (λ (k : List ℕ). HasLinkVisited turns starts pool after l k (sent ++ more) false)
          (append-nil came) (goes.own came sent false o.visited);
      whole = o.whole;
    };
    answered = λ s l input came sent all a. record {
      visited = a.visited;
      whole =
          whole_more a.before came a.request a.whole a.framed (a.part
          ∙ ap (λ (k : List ℕ). a.before ++ k) (ap (λ k. take k input.bytes.items) (omega (arith, all, a.given))
          ∙ sym a.first));
    };
    left = λ s l came sent over o. (let d = over_in (world_of s l) l.conn came sent over o.visited in
        (d.0, record { done = d.1; whole = o.whole }));
    closed = λ s l input came sent all over a. (let d = over_in (world_of s l) l.conn came sent over a.visited in (
      d.0,
      record {
        done = d.1;
        before = a.before;
        whole = a.whole;
        request = a.request;
        framed = a.framed;
        all =
            a.part
            ∙ ap (λ (k : List ℕ). a.before ++ k) (ap (λ k. take k input.bytes.items) (omega (arith, all, a.given))
            ∙ sym a.first);
      },
    ));
  }
