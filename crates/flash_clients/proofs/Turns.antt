-- The answers on a client's connections, one after another, are the answer to its stream.
use Rattle.std.proofs.Common.{◌≡◌, ℕ, List, [], ◌∷◌, ◌++◌, map, ap, ◌∙◌, refl, sym, subst, append_assoc, append-nil}
use Rattle.std.specs.List.{AllByRecursion, concat}
use Rattle.flash_http.specs.Request.{OneAnswer}
use Rattle.flash_laws.specs.SiteContents.{Begins, IsAnswer, SiteContents}
use Rattle.flash_laws.proofs.Conn.Responses.{WindowLaws}
use Rattle.flash_laws.proofs.World.Responses.{begins-append, begins-less, begins-none}
use Rattle.flash_streams.specs.Follow.{StreamsFollow}
use Rattle.flash_clients.specs.Clients.{AreVisits, BeginsInTurn, ClientsGetAnswers, EndsWell, InTurn, IsServed}
use Rattle.flash_clients.specs.Clients.{IsServedWhole, Splits, Visit}
use Rattle.flash_clients.proofs.Client.{left_whole, waits_answer, well_answer}

-- ---- one site after another

module _ (laws : WindowLaws) (one : OneAnswer) (follow : StreamsFollow) where
  abbrev all_came : List Visit → List ℕ
  all_came vs = concat (map (λ v. v.came) vs)

  abbrev all_sent : List Visit → List ℕ
  all_sent vs = concat (map (λ v. v.sent) vs)

  begins_all : (vs : List Visit) (waiting : List ℕ) → AreVisits vs
      → InTurn Begins (map (λ v. v.site_contents) vs) (all_came vs ++ waiting) (all_sent vs)
  begins_all [] waiting is = refl
  begins_all (v ∷ []) waiting is =
      subst (λ (l : List ℕ). Begins v.site_contents (l ++ waiting) (v.sent ++ [])) (sym (append-nil v.came))
      (subst (λ (l : List ℕ). Begins v.site_contents (v.came ++ waiting) l) (sym (append-nil v.sent))
      (begins-append laws v.site_contents v.came waiting v.sent is))
  begins_all (v ∷ w ∷ vs) waiting is = record {
    front = v.came;
    back = all_came (w ∷ vs) ++ waiting;
    stream = append_assoc v.came (all_came (w ∷ vs)) waiting;
    first = v.sent;
    next = all_sent (w ∷ vs);
    parts = refl;
    whole = left_whole laws one follow v is.0;
    rest = begins_all (w ∷ vs) waiting is.1;
  }

  whole_all : (vs : List Visit) (waiting : List ℕ) → AreVisits vs → EndsWell waiting vs
      → InTurn IsAnswer (map (λ v. v.site_contents) vs) (all_came vs ++ waiting) (all_sent vs)
  whole_all [] waiting is ends = refl
  whole_all (v ∷ []) waiting is ends =
      subst (λ (l : List ℕ). IsAnswer v.site_contents (l ++ waiting) (v.sent ++ [])) (sym (append-nil v.came))
      (subst (λ (l : List ℕ). IsAnswer v.site_contents (v.came ++ waiting) l) (sym (append-nil v.sent))
      (well_answer laws one follow v waiting ends))
  whole_all (v ∷ w ∷ vs) waiting is ends = record {
    front = v.came;
    back = all_came (w ∷ vs) ++ waiting;
    stream = append_assoc v.came (all_came (w ∷ vs)) waiting;
    first = v.sent;
    next = all_sent (w ∷ vs);
    parts = refl;
    whole = left_whole laws one follow v is.0;
    rest = whole_all (w ∷ vs) waiting is.1 ends;
  }

  begins_in_turn : (vs : List Visit) (supplied accepted : List ℕ) → IsServed vs supplied accepted
      → BeginsInTurn (map (λ v. v.site_contents) vs) supplied accepted
  begins_in_turn vs supplied accepted served = record {
    more = served.unsent;
    begins = subst (λ (l : List ℕ). InTurn Begins (map (λ v. v.site_contents) vs) l (accepted ++ served.unsent))
        (sym served.received)
        (subst (λ (l : List ℕ). InTurn Begins (map (λ v. v.site_contents) vs) (all_came vs ++ served.waiting) l)
        served.produced (begins_all vs served.waiting served.visits));
  }

  sent_all : (vs : List Visit) (supplied accepted : List ℕ) → (is : IsServedWhole vs supplied accepted)
      → all_sent vs ≡ accepted
  sent_all vs supplied accepted is = is.served.produced
      ∙ (ap (λ (l : List ℕ). accepted ++ l) is.all ∙ append-nil accepted)

  whole_in_turn : (vs : List Visit) (supplied accepted : List ℕ) → IsServedWhole vs supplied accepted
      → InTurn IsAnswer (map (λ v. v.site_contents) vs) supplied accepted
  whole_in_turn vs supplied accepted is =
      subst (λ (l : List ℕ). InTurn IsAnswer (map (λ v. v.site_contents) vs) l accepted) (sym is.served.received)
      (subst (λ (l : List ℕ). InTurn IsAnswer (map (λ v. v.site_contents) vs) (all_came vs ++ is.served.waiting) l)
      (sent_all vs supplied accepted is)
      (whole_all vs is.served.waiting is.served.visits is.ends))

  -- ---- one site

  -- a connection before others of the same site
  begins_before : (x : SiteContents) (Rest : List ℕ → List ℕ → Type 0) (s bytes : List ℕ) → (is : Splits x Rest s bytes)
      → Begins x is.back is.next → Begins x s bytes
  begins_before x Rest s bytes is rest =
      subst (λ (l : List ℕ). Begins x l bytes) (sym is.stream)
      (subst (λ (l : List ℕ). Begins x (is.front ++ is.back) l) (sym is.parts)
      (follow.begins x is.front is.back is.first is.next is.whole rest))

  whole_before : (x : SiteContents) (Rest : List ℕ → List ℕ → Type 0) (s bytes : List ℕ) → (is : Splits x Rest s bytes)
      → IsAnswer x is.back is.next → IsAnswer x s bytes
  whole_before x Rest s bytes is rest =
      subst (λ (l : List ℕ). IsAnswer x l bytes) (sym is.stream)
      (subst (λ (l : List ℕ). IsAnswer x (is.front ++ is.back) l) (sym is.parts)
      (follow.answer x is.front is.back is.first is.next is.whole rest))

  splits_before : (x : SiteContents) (Rest : List ℕ → List ℕ → Type 0) (s bytes : List ℕ)
      → Splits x (λ t more. Splits x Rest t more) s bytes → Splits x Rest s bytes
  splits_before x Rest s bytes is = record {
    front = is.front ++ is.rest.front;
    back = is.rest.back;
    stream =
        is.stream
        ∙ (ap (λ (l : List ℕ). is.front ++ l) is.rest.stream ∙ sym (append_assoc is.front is.rest.front is.rest.back));
    first = is.first ++ is.rest.first;
    next = is.rest.next;
    parts =
        is.parts
        ∙ (ap (λ (l : List ℕ). is.first ++ l) is.rest.parts ∙ sym (append_assoc is.first is.rest.first is.rest.next));
    whole = follow.whole x is.front is.rest.front is.first is.rest.first is.whole is.rest.whole;
    rest = is.rest.rest;
  }

  begins_once : (x : SiteContents) (xs : List SiteContents) (s bytes : List ℕ) → InTurn Begins (x ∷ x ∷ xs) s bytes
      → InTurn Begins (x ∷ xs) s bytes
  begins_once x [] s bytes is = begins_before x (λ t more. Begins x t more) s bytes is is.rest
  begins_once x (y ∷ xs) s bytes is = splits_before x (λ t more. InTurn Begins (y ∷ xs) t more) s bytes is

  whole_once : (x : SiteContents) (xs : List SiteContents) (s bytes : List ℕ) → InTurn IsAnswer (x ∷ x ∷ xs) s bytes
      → InTurn IsAnswer (x ∷ xs) s bytes
  whole_once x [] s bytes is = whole_before x (λ t more. IsAnswer x t more) s bytes is is.rest
  whole_once x (y ∷ xs) s bytes is = splits_before x (λ t more. InTurn IsAnswer (y ∷ xs) t more) s bytes is

  module _ (site_contents : SiteContents) where
    begins_one : (vs : List Visit) (s bytes : List ℕ) → AllByRecursion (λ v. v.site_contents ≡ site_contents) vs
        → InTurn Begins (map (λ v. v.site_contents) vs) s bytes → Begins site_contents s bytes
    begins_one [] s bytes same is =
        subst (λ (l : List ℕ). Begins site_contents s l) (sym is) (begins-none site_contents s)
    begins_one (v ∷ []) s bytes same is = subst (λ (x : SiteContents). Begins x s bytes) same.0 is
    begins_one (v ∷ w ∷ vs) s bytes same is =
        let Rest : List ℕ → List ℕ → Type 0 =
        λ t more. InTurn Begins (w.site_contents ∷ map (λ u. u.site_contents) vs) t more in
        let here = subst (λ (x : SiteContents). Splits x Rest s bytes) same.0 is in
        begins_before site_contents Rest s bytes here (begins_one (w ∷ vs) here.back here.next same.1 here.rest)

    whole_one : (v : Visit) (vs : List Visit) (s bytes : List ℕ)
        → AllByRecursion (λ v. v.site_contents ≡ site_contents) (v ∷ vs)
        → InTurn IsAnswer (v.site_contents ∷ map (λ v. v.site_contents) vs) s bytes → IsAnswer site_contents s bytes
    whole_one v [] s bytes same is = subst (λ (x : SiteContents). IsAnswer x s bytes) same.0 is
    whole_one v (w ∷ vs) s bytes same is =
        let Rest : List ℕ → List ℕ → Type 0 =
        λ t more. InTurn IsAnswer (w.site_contents ∷ map (λ u. u.site_contents) vs) t more in
        let here = subst (λ (x : SiteContents). Splits x Rest s bytes) same.0 is in
        whole_before site_contents Rest s bytes here (whole_one w vs here.back here.next same.1 here.rest)

    begins : (vs : List Visit) (supplied accepted : List ℕ) → AllByRecursion (λ v. v.site_contents ≡ site_contents) vs
        → IsServed vs supplied accepted → Begins site_contents supplied accepted
    begins vs supplied accepted same served =
        let turn = begins_in_turn vs supplied accepted served in
        begins-less site_contents supplied accepted turn.more
        (begins_one vs supplied (accepted ++ turn.more) same turn.begins)

    whole : (vs : List Visit) (supplied accepted : List ℕ) → AllByRecursion (λ v. v.site_contents ≡ site_contents) vs
        → IsServedWhole vs supplied accepted → IsAnswer site_contents supplied accepted
    whole [] supplied accepted same is =
        subst (λ (l : List ℕ). IsAnswer site_contents l accepted) (sym is.served.received)
        (subst (λ (l : List ℕ). IsAnswer site_contents is.served.waiting l) (sent_all [] supplied accepted is)
        (waits_answer site_contents is.served.waiting is.ends))
    whole (v ∷ vs) supplied accepted same is =
        whole_one v vs supplied accepted same (whole_in_turn (v ∷ vs) supplied accepted is)

  pub get_answers : ClientsGetAnswers
  get_answers = record {
    begins = begins;
    whole = whole;
    begins_in_turn = begins_in_turn;
    whole_in_turn = whole_in_turn;
    begins_once = begins_once;
    whole_once = whole_once;
  }
