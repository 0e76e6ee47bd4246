-- After its call a worker has exactly what it then uses.
use Rattle.std.proofs.Common.{◌≡◌, ◌≢◌, ℕ, ◌+◌, ◌==◌, List, length, ap, ◌∙◌, refl, subst, arith, Option, Some, None}
use Rattle.std.proofs.Common.{true, false, Bool, if◌then◌else◌}
use Rattle.std.specs.Prelude.{◌||◌, ◌&&◌, not, is_some, nat_le, slice_get}
use Rattle.std.proofs.lemmas.Bool.Decides.{nat_tests}
use Rattle.iol_core.specs.State.{State, descriptor, is_live}
use Rattle.iol_core.specs.Run.{StepsTo}
use Rattle.iol_core.specs.declared.descriptors.Mode.TheVariants.{Read}
use Rattle.iol_core.specs.declared.refusals.Refusal.TheVariants as not_so
use Rattle.iol_core.specs.declared.events.Call.{Call}
use Rattle.iol_core.specs.declared.events.Call.TheVariants as call
use Rattle.iol_core.specs.declared.events.Event.TheVariants as event
use Rattle.iol_core.specs.declared.events.Reply.{Reply}
use Rattle.iol_core.specs.declared.events.Reply.TheVariants as reply
use Rattle.iol_laws.specs.Aggregates.{AggregatesComeAndGo, brings}
use Rattle.iol_laws.specs.Caller as o
use Rattle.iol_laws.specs.Caller.{CallsServeTheirDomain, readable_at}
use Rattle.iol_laws.specs.Order.{IsOrderly}
use Rattle.iol_laws.specs.Reasons.{RefusalsTellWhy}
use Rattle.flash_cgi.specs.Collecting.{Collected, bytes_of_one, is_expected, is_full, is_nothing, last_place, with_file}
use Rattle.flash_cgi.specs.Collecting.{with_next, with_text, without_next, without_text}
use Rattle.flash_cgi.specs.Job.{Task}
use Rattle.flash_cgi.specs.WorkerSteps.{call_at, expected_now, file_collected, shut_by, after_reply, after_breaking}
use Rattle.flash_cgi.specs.WorkerSteps.{after_dropping, after_joining, after_next, after_making, after_opening}
use Rattle.flash_cgi.specs.WorkerSteps.{after_parting, after_replacing, after_writing, after_reading, after_cutting}
use Rattle.flash_cgi.specs.WorkerSteps.{got, next_call, bytes_at, interleave_by, interleave_on}
use Rattle.flash_cgi.specs.Uses.{is_one, uses_fd, uses_agg, HasJust}
use Rattle.flash_cgi.specs.declared.line.Line.{Line}
use Rattle.flash_cgi.specs.declared.line.Line.TheVariants as line
use Rattle.flash_cgi.specs.declared.phase.Purpose.{Purpose}
use Rattle.flash_cgi.specs.declared.phase.Purpose.TheVariants as purpose
use Rattle.flash_cgi.specs.declared.phase.Phase.{Phase}
use Rattle.flash_cgi.specs.declared.phase.Phase.TheVariants as phase
use Rattle.flash_cgi.specs.declared.phase.Step.{Step}
use Rattle.flash_cgi.specs.declared.piece.Place.{Place}
use Rattle.flash_cgi.proofs.Interleaving.{nothing_is}
use Rattle.flash_cgi.proofs.StaysByCall.{at_step}
use Rattle.flash_cgi.proofs.NotOpen.{free_make, free_cut, free_drop, free_join, free_replace, free_set_pool, free_split}
use Rattle.flash_cgi.proofs.NotOpen.{free_read, free_write, free_close, free_open}

either_false : (a b : Bool) → a ≡ false → b ≡ false → (a || b) ≡ false
either_false true b p q = absurd (cc)
either_false false b p q = q

right_of : (a b : Bool) → (a || b) ≡ false → b ≡ false
right_of true b e = absurd (cc)
right_of false b e = e

left_of : (a b : Bool) → (a || b) ≡ false → a ≡ false
left_of true b e = e
left_of false b e = refl

or_parts : (a b : Bool) → (a || b) ≡ false → (a ≡ false) × (b ≡ false)
or_parts a b e = (left_of a b e, right_of a b e)

not_not : (b : Bool) → not b ≡ false → b ≡ true
not_not true e = refl
not_not false e = absurd (cc (e))

none_next : (x : Collected) → (is_full x || is_some x.next) ≡ false → x.next ≡ None
none_next x expected = by x.next (right_of (is_full x) (is_some x.next) expected)
  where
    by : (o : Option ℕ) → is_some o ≡ false → o ≡ None
    by None e = refl
    by (Some a) e = absurd (cc (e))

-- an event of the domain itself
here : (d : ℕ) (b : Bool) → b ≡ true → ((d == d) && b) ≡ true
here d b is = ap (λ t. (d == d) && t) is ∙ grind (arith, nat_tests)

pub both_false : (a b : Bool) → b ≡ false → (a && b) ≡ false
both_false true b e = e
both_false false b e = refl

apart : (a b : ℕ) → (a == b) ≡ false → a ≢ b
apart a b test same = grind (arith, nat_tests, test, same)

pub same_number : (a b : ℕ) → (a == b) ≡ true → a ≡ b
same_number a b test = grind (arith, nat_tests, test)

module _ (own : CallsServeTheirDomain) (why : RefusalsTellWhy) (come : AggregatesComeAndGo)
    (m n : State) (d : ℕ) (fds aggs : ℕ → Bool) (job : Task) (order : IsOrderly m) (live : is_live m d ≡ true) where
  abbrev Had : Collected → Phase → Type 0
  Had x y = HasJust m d fds aggs job x y

  abbrev HasTo : Option Step → Type 0
  HasTo None = Unit {0}
  HasTo (Some next) = HasJust n d fds aggs job next.piece next.phase

  -- ---- aggregates

  -- an aggregate that does not exist is not made by a call whose reply does not return it
  pub absent : (k : Call) (r : Reply) (a : ℕ) → StepsTo m (event.Call d k) r n → brings (event.Call d k) r d a ≡ false
      → readable_at m d a ≡ None → readable_at n d a ≡ None
  absent k r a step un is = come.none m n (event.Call d k) r d a step is un

  -- if a call changed nothing, and there was no such object before it, there is none after it
  was_none : {A : Type 0} (found : State → Option A) → n ≡ m → ((x : A) → found m ≡ Some x → ⊥) → found n ≡ None
  was_none {A = A} found same never = by (found m) refl
    where
      by : (t : Option A) → found m ≡ t → found n ≡ None
      by None none = ap found same ∙ none
      by (Some x) some = absurd (never x some)

  -- a dropped aggregate does not exist
  dropped : (a : ℕ) (r : Reply) → StepsTo m (event.Call d (call.AggDrop a)) r n → readable_at n d a ≡ None
  dropped a r step = by r step (own.drops m n d a r order step)
    where
      by : (x : Reply) → StepsTo m (event.Call d (call.AggDrop a)) x n → o.Drops m d a x n → readable_at n d a ≡ None
      by reply.Done step did = did
      by (reply.Refused y) step did =
          was_none (λ s. readable_at s d a) did
          (λ bytes some. (let e = why.drop_is_done m n d a bytes (reply.Refused y) live some step in cc (e)))
      by x step did = absurd did

  after_drop : (a b : ℕ) (r : Reply) → StepsTo m (event.Call d (call.AggDrop a)) r n
      → ((a == b) ≡ false → readable_at m d b ≡ None) → readable_at n d b ≡ None
  after_drop a b r step was = by (a == b) refl
    where
      plain : (x : Reply) → StepsTo m (event.Call d (call.AggDrop a)) x n → o.Drops m d a x n → readable_at m d b ≡ None
          → readable_at n d b ≡ None
      plain reply.Done step did is = absent (call.AggDrop a) reply.Done b step refl is
      plain (reply.Refused x) step did is = ap (λ (s : State). readable_at s d b) did ∙ is
      plain x step did is = absurd did

      by : (t : Bool) → (a == b) ≡ t → readable_at n d b ≡ None
      by true test = subst (λ k. readable_at n d k ≡ None) (same_number a b test) (dropped a r step)
      by false test = plain r step (own.drops m n d a r order step) (was test)

  after_close : (fd b : ℕ) (r : Reply) → StepsTo m (event.Call d (call.Close fd)) r n → readable_at m d b ≡ None
      → readable_at n d b ≡ None
  after_close fd b r step is = by r step (own.closes m n d fd r step)
    where
      by : (x : Reply) → StepsTo m (event.Call d (call.Close fd)) x n → o.Closes m d fd x n → readable_at n d b ≡ None
      by reply.Done step did = absent (call.Close fd) reply.Done b step refl is
      by (reply.Refused x) step did = ap (λ (s : State). readable_at s d b) did ∙ is
      by x step did = absurd did

  after_set_pool : (p b : ℕ) (r : Reply) → StepsTo m (event.Call d (call.SetPool p)) r n → readable_at m d b ≡ None
      → readable_at n d b ≡ None
  after_set_pool p b (reply.Agg a) step is = (let e = step.1 in absurd (cc))
  after_set_pool p b (reply.Aggs a c) step is = (let e = step.1 in absurd (cc))
  after_set_pool p b r step is = absent (call.SetPool p) r b step refl is

  -- ---- descriptors

  -- a closed descriptor is not open
  shut : (fd : ℕ) (r : Reply) → StepsTo m (event.Call d (call.Close fd)) r n → descriptor n d fd ≡ None
  shut fd r step = by r step (own.closes m n d fd r step)
    where
      by : (x : Reply) → StepsTo m (event.Call d (call.Close fd)) x n → o.Closes m d fd x n → descriptor n d fd ≡ None
      by reply.Done step did = did
      by (reply.Refused y) step did =
          was_none (λ s. descriptor s d fd) did
          (λ x some. (let e = why.close_is_done m n d fd x (reply.Refused y) live some step in cc (e)))
      by x step did = absurd did

  after_shut : (fd f : ℕ) (r : Reply) → StepsTo m (event.Call d (call.Close fd)) r n
      → ((fd == f) ≡ false → descriptor m d f ≡ None) → descriptor n d f ≡ None
  after_shut fd f r step was = by (fd == f) refl
    where
      by : (t : Bool) → (fd == f) ≡ t → descriptor n d f ≡ None
      by true test = subst (λ k. descriptor n d k ≡ None) (same_number fd f test) (shut fd r step)
      by false test = free_close m n d fd f r step (was test)

  -- two joined aggregates, or a split one, do not exist afterwards
  after_join : (a c e b : ℕ) → StepsTo m (event.Call d (call.AggJoin a c)) (reply.Agg e) n → (e == b) ≡ false
      → ((a == b) ≡ false → (c == b) ≡ false → readable_at m d b ≡ None) → readable_at n d b ≡ None
  after_join a c e b step new was = by (a == b) refl (c == b) refl
    where
      given : ((a == b) || (c == b)) ≡ true → readable_at n d b ≡ None
      given is =
          come.gone m n (event.Call d (call.AggJoin a c)) (reply.Agg e) d b order step
          (here d ((a == b) || (c == b)) is) refl

      by : (t : Bool) → (a == b) ≡ t → (u : Bool) → (c == b) ≡ u → readable_at n d b ≡ None
      by true one u two = given (ap (λ t. t || (c == b)) one)
      by false one true two = given (ap (λ t. t || (c == b)) one ∙ two)
      by false one false two =
          absent (call.AggJoin a c) (reply.Agg e) b step (both_false (d == d) (e == b) new) (was one two)

  after_split : (a at c e b : ℕ) → StepsTo m (event.Call d (call.AggSplit a at)) (reply.Aggs c e) n
      → ((c == b) || (e == b)) ≡ false → ((a == b) ≡ false → readable_at m d b ≡ None) → readable_at n d b ≡ None
  after_split a at c e b step new was = by (a == b) refl
    where
      by : (t : Bool) → (a == b) ≡ t → readable_at n d b ≡ None
      by true one =
          come.gone m n (event.Call d (call.AggSplit a at)) (reply.Aggs c e) d b order step (here d (a == b) one) refl
      by false one =
          absent (call.AggSplit a at) (reply.Aggs c e) b step (both_false (d == d) ((c == b) || (e == b)) new) (was one)

  -- ---- nothing happened

  unchanged : (x z : Collected) (y v : Phase) → ((f : ℕ) → uses_fd job v f ≡ false → uses_fd job y f ≡ false)
      → ((a : ℕ) → uses_agg z v a ≡ false → uses_agg x y a ≡ false) → n ≡ m → Had x y → HasJust n d fds aggs job z v
  unchanged x z y v fewer_fds fewer_aggs same h = record {
    no_fd = λ f given un. ap (λ (s : State). descriptor s d f) same ∙ h.no_fd f given (fewer_fds f un);
    no_agg = λ a given un. ap (λ (s : State). readable_at s d a) same ∙ h.no_agg a given (fewer_aggs a un);
  }

  -- ---- phase by phase

  pub drops : (x z : Collected) (y v : Phase) (a : ℕ) (r : Reply)
      → ((f : ℕ) → uses_fd job v f ≡ false → uses_fd job y f ≡ false)
      → ((b : ℕ) → (a == b) ≡ false → uses_agg z v b ≡ false → uses_agg x y b ≡ false)
      → Had x y → StepsTo m (event.Call d (call.AggDrop a)) r n → HasJust n d fds aggs job z v
  drops x z y v a r fewer_fds fewer_aggs h step = record {
    no_fd = λ f given un. free_drop m n d f a r step (h.no_fd f given (fewer_fds f un));
    no_agg = λ b given un. after_drop a b r step (λ differ. h.no_agg b given (fewer_aggs b differ un));
  }

  closes : (x z : Collected) (y v : Phase) (fd : ℕ) (r : Reply)
      → ((f : ℕ) → (fd == f) ≡ false → uses_fd job v f ≡ false → uses_fd job y f ≡ false)
      → ((b : ℕ) → uses_agg z v b ≡ false → uses_agg x y b ≡ false)
      → Had x y → StepsTo m (event.Call d (call.Close fd)) r n → HasJust n d fds aggs job z v
  closes x z y v fd r fewer_fds fewer_aggs h step = record {
    no_fd = λ f given un. after_shut fd f r step (λ differ. h.no_fd f given (fewer_fds f differ un));
    no_agg = λ b given un. after_close fd b r step (h.no_agg b given (fewer_aggs b un));
  }

  -- the aggregate of the buffered text is made: the next phase uses it and the buffered output
  interleaves : (y : Phase) (begun : ℕ) (x : Collected) (a : ℕ)
      → ((f : ℕ) → fds f ≡ false → (job.fd == f) ≡ false → descriptor n d f ≡ None)
      → ((b : ℕ) → aggs b ≡ false → (a == b) ≡ false → is_one x.held b ≡ false → is_one x.next b ≡ false
      → readable_at n d b ≡ None) → HasTo (Some (interleave_on begun x a))
  interleaves y begun x a no_fd none = by x.held refl (last_place x.places)
    where
      by : (h : Option ℕ) → x.held ≡ h → (o : Option Place) → HasTo (Some (interleave_by h o begun x a))
      by None is o = record {
        no_fd = no_fd;
        no_agg = λ b given un. (let k = or_parts (a == b) (is_one x.held b || is_one x.next b) un in let l =
            or_parts (is_one x.held b) (is_one x.next b) k.1 in none b given k.0 l.0 l.1);
      }
      by (Some held) is None = record {
        no_fd = no_fd;
        no_agg = λ b given un. (let k = or_parts (held == b) ((a == b) || is_one x.next b) un in let l =
            or_parts (a == b) (is_one x.next b) k.1 in
            none b given l.0 (ap (λ (o : Option ℕ). is_one o b) is ∙ k.0) l.1);
      }
      by (Some held) is (Some place) = record {
        no_fd = no_fd;
        no_agg = λ b given un. (let k = or_parts (held == b) ((a == b) || is_one x.next b) un in let l =
            or_parts (a == b) (is_one x.next b) k.1 in
            none b given l.0 (ap (λ (o : Option ℕ). is_one o b) is ∙ k.0) l.1);
      }

  made : (begun : ℕ) (x : Collected) (r : Reply) → Had x phase.Interpreting
      → StepsTo m (event.Call d (call.AggMake x.text)) r n
      → HasTo (after_making x begun r)
  made begun x (reply.Agg a) h step =
      interleaves phase.Interpreting begun (without_text x) a
      (λ f given un. free_make m n d f x.text (reply.Agg a) step (h.no_fd f given un))
      (λ b given new held next. absent (call.AggMake x.text) (reply.Agg a) b step (both_false (d == d) (a == b) new)
      (h.no_agg b given (either_false (is_one x.held b) (is_one x.next b) held next)))
  made begun x r h step = tt

  parted : (x : Collected) (held a from begun : ℕ) (r : Reply) → Had x (phase.CuttingPart held a from)
      → StepsTo m (event.Call d (call.AggSplit held from)) r n → HasTo (after_parting x a begun r)
  parted x held a from begun (reply.Aggs front part) h step = record {
    no_fd = λ f given un. free_split m n d f held from (reply.Aggs front part) step (h.no_fd f given un);
    no_agg = λ b given un. (let k = or_parts (a == b) ((part == b) || ((front == b) || is_one x.next b)) un in
        let l = or_parts (part == b) ((front == b) || is_one x.next b) k.1 in
        let o = or_parts (front == b) (is_one x.next b) l.1 in
        after_split held from front part b step (either_false (front == b) (part == b) o.0 l.0)
        (λ differ. h.no_agg b given
        (either_false (held == b) ((a == b) || is_one x.next b) differ
        (either_false (a == b) (is_one x.next b) k.0 o.1))));
  }
  parted x held a from begun r h step = tt

  replaced : (x : Collected) (a part at begun : ℕ) (r : Reply) → Had x (phase.ReplacingPart a part at)
      → StepsTo m (event.Call d (call.AggReplace a at at part)) r n → HasTo (after_replacing x a part begun r)
  replaced x a part at begun (reply.Agg made) h step = record {
    no_fd = λ f given un. free_replace m n d f a at at part (reply.Agg made) step (h.no_fd f given un);
    no_agg =
        λ b given un. (let k = or_parts (a == b) ((part == b) || ((made == b) || (is_one x.held b || is_one x.next b)))
        un in
        let l = or_parts (part == b) ((made == b) || (is_one x.held b || is_one x.next b)) k.1 in
        let o = or_parts (made == b) (is_one x.held b || is_one x.next b) l.1 in
        absent (call.AggReplace a at at part) (reply.Agg made) b step (both_false (d == d) (made == b) o.0)
        (h.no_agg b given (either_false (a == b) ((part == b) || (is_one x.held b || is_one x.next b)) k.0
        (either_false (part == b) (is_one x.held b || is_one x.next b) l.0 o.1))));
  }
  replaced x a part at begun r h step = tt

  joined : (x : Collected) (held a from len begun : ℕ) (r : Reply) → Had x (phase.JoiningFile held a from len)
      → StepsTo m (event.Call d (call.AggJoin held a)) r n → HasTo (after_joining x from len begun r)
  joined x held a from len begun (reply.Agg c) h step = record {
    no_fd = λ f given un. free_join m n d f held a (reply.Agg c) step (h.no_fd f given un);
    no_agg = λ b given un. (let k = or_parts (c == b) (is_one x.next b) un in
        after_join held a c b step k.0 (λ one two. h.no_agg b given (either_false (held == b) (a == b) one two)));
  }
  joined x held a from len begun r h step = tt

  cuts : (x : Collected) (a from to begun : ℕ) (r : Reply) → Had x (phase.CuttingRest a from to)
      → StepsTo m (event.Call d (call.AggCut a from to)) r n → HasTo (after_cutting x a begun r)
  cuts x a from to begun (reply.Agg c) h step = record {
    no_fd = λ f given un. free_cut m n d f a from to (reply.Agg c) step (h.no_fd f given un);
    no_agg = λ b given un. (let k = or_parts (a == b) ((c == b) || (is_one x.held b || is_one x.next b)) un in
        let l = or_parts (c == b) (is_one x.held b || is_one x.next b) k.1 in
        absent (call.AggCut a from to) (reply.Agg c) b step (both_false (d == d) (c == b) l.0)
        (h.no_agg b given (either_false (a == b) (is_one x.held b || is_one x.next b) k.0 l.1)));
  }
  cuts x a from to begun r h step = tt

  writes : (x : Collected) (a len begun : ℕ) (r : Reply) → Had x (phase.Writing a)
      → StepsTo m (event.Call d (call.IolWrite job.fd a)) r n → HasTo (after_writing x a len begun r)
  writes x a len begun (reply.Count k) h step = by (k == len)
    where
      by : (t : Bool) → HasJust n d fds aggs job x (if t then phase.DroppingWritten a else phase.CuttingRest a k len)
      by true = record {
        no_fd = λ f given un. free_write m n d job.fd f a (reply.Count k) step (h.no_fd f given un);
        no_agg = λ b given un. absent (call.IolWrite job.fd a) (reply.Count k) b step refl (h.no_agg b given un);
      }
      by false = record {
        no_fd = λ f given un. free_write m n d job.fd f a (reply.Count k) step (h.no_fd f given un);
        no_agg = λ b given un. absent (call.IolWrite job.fd a) (reply.Count k) b step refl (h.no_agg b given un);
      }
  writes x a len begun (reply.Refused not_so.BrokenPipe) h step =
      unchanged x x (phase.Writing a) (phase.Aborting a) (λ f un. un) (λ b un. un) step.1 h
  writes x a len begun r h step = tt

  reads : (x : Collected) (file : ℕ) (u : Purpose) (begun : ℕ) (r : Reply) → Had x (phase.Reading file u)
      → StepsTo m (event.Call d (call.IolRead file 16777216)) r n
      → HasTo (after_reading (readable_at n d) x file u begun r)
  reads x file u begun (reply.Agg a) h step = by u
    where
      none : (b : ℕ) → aggs b ≡ false → ((a == b) || is_one x.held b) ≡ false → readable_at n d b ≡ None
      none b given un =
          (let k = or_parts (a == b) (is_one x.held b) un in
          absent (call.IolRead file 16777216) (reply.Agg a) b step (both_false (d == d) (a == b) k.0)
          (h.no_agg b given k.1))

      by : (v : Purpose) → HasJust n d fds aggs job x (got (readable_at n d) file a v)
      by purpose.Cat =
          record {
            no_fd = λ f given un. free_read m n d file f 16777216 (reply.Agg a) step (h.no_fd f given un);
            no_agg = none;
          }
      by purpose.Wc =
          record {
            no_fd = λ f given un. free_read m n d file f 16777216 (reply.Agg a) step (h.no_fd f given un);
            no_agg = none;
          }
  reads x file u begun (reply.Refused y) h step =
      unchanged x x (phase.Reading file u) _ (λ f un. un) (λ b un. un) step.1 h
  reads x file u begun r h step = tt

  -- a line begins: no long file follows the buffered output
  abbrev NoNext : Collected → Type 0
  NoNext x = x.next ≡ None

  opens : (x : Collected) (u : Purpose) (name : List ℕ) (begun : ℕ) (r : Reply) → NoNext x → Had x phase.Interpreting
      → StepsTo m (event.Call d (call.OpenFile name Read)) r n → HasTo (after_opening x u begun r)
  opens x u name begun (reply.Fd g) none h step = record {
    no_fd = λ f given un. free_open m n d f g name Read step (apart g f (right_of (job.fd == f) (g == f) un))
        (h.no_fd f given (left_of (job.fd == f) (g == f) un));
    no_agg =
        λ b given un. absent (call.OpenFile name Read) (reply.Fd g) b step refl
        (h.no_agg b given
        (either_false (is_one x.held b) (is_one x.next b) un (ap (λ (o : Option ℕ). is_one o b) none)));
  }
  opens x u name begun (reply.Refused y) none h step =
      unchanged x _ phase.Interpreting phase.Interpreting (λ f un. un) (λ b un. un) step.1 h
  opens x u name begun r none h step = tt

  collects : (x : Collected) (said : List ℕ) (begun : ℕ) (r : Reply) → Had x phase.Interpreting
      → StepsTo m (event.Call d (call.SetPool 3)) r n
      → HasTo (Some (at_step phase.Interpreting begun (with_text x said)))
  collects x said begun r h step = record {
    no_fd = λ f given un. free_set_pool m n d f 3 r step (h.no_fd f given un);
    no_agg = λ b given un. after_set_pool 3 b r step (h.no_agg b given un);
  }

  begins : (x : Collected) (begun : ℕ) (l : Option Line) (r : Reply) → is_expected x l ≡ false
      → Had x phase.Interpreting
      → StepsTo m (event.Call d (next_call job l)) r n → HasTo (after_next job x l begun r)
  begins x begun None r expected h step = closes x x phase.Interpreting phase.Waiting job.fd r (λ f differ un. differ)
      (λ b un. (let empty = nothing_is x (not_not (is_nothing x) expected) in
      either_false (is_one x.held b) (is_one x.next b) (ap (λ (o : Option ℕ). is_one o b) empty.held)
      (ap (λ (o : Option ℕ). is_one o b) empty.next))) h step
  begins x begun (Some (line.Cat name)) r expected h step =
      opens x purpose.Cat name (begun + 1) r (none_next x expected) h step
  begins x begun (Some (line.Wc name)) r expected h step =
      opens x purpose.Wc name (begun + 1) r (none_next x expected) h step
  begins x begun (Some (line.Emit text)) r expected h step = collects x _ (begun + 1) r h step
  begins x begun (Some line.Query) r expected h step = collects x _ (begun + 1) r h step
  begins x begun (Some line.Pause) r expected h step = record {
    no_fd = λ f given un. free_set_pool m n d f 3 r step (h.no_fd f given un);
    no_agg = λ b given un. after_set_pool 3 b r step (h.no_agg b given un);
  }

  runs : (x : Collected) (begun : ℕ) (r : Reply) (t : Bool) → expected_now job x begun ≡ t → Had x phase.Interpreting
      → StepsTo m (event.Call d (if t then call.AggMake x.text else next_call job (slice_get job.lines begun))) r n
      → HasTo (if t then after_making x begun r else after_next job x (slice_get job.lines begun) begun r)
  runs x begun r true expected h step = made begun x r h step
  runs x begun r false expected h step = begins x begun (slice_get job.lines begun) r expected h step

  shuts : (x : Collected) (file a from len begun : ℕ) (r : Reply) → Had x (phase.ClosingFile file a)
      → StepsTo m (event.Call d (call.Close file)) r n → HasTo (shut_by x from a len begun)
  shuts x file a from len begun r h step = by x.held refl (nat_le len 4096) (is_nothing x)
    where
      to : (z : Collected) (v : Phase) → ((f : ℕ) → uses_fd job v f ≡ false → (job.fd == f) ≡ false)
          → ((b : ℕ) → uses_agg z v b ≡ false → ((a == b) || is_one x.held b) ≡ false) → HasJust n d fds aggs job z v
      to z v fewer_fds fewer =
          closes x z (phase.ClosingFile file a) v file r
          (λ f differ un. either_false (job.fd == f) (file == f) (fewer_fds f un) differ) fewer h step

      by : (o : Option ℕ) → x.held ≡ o → (t u : Bool) → HasTo (if t then file_collected x o from a len begun
          else (if u then Some (at_step (phase.Writing a) begun x) else Some
          (at_step phase.Interpreting begun (with_next x a))))
      by None is true u = to (with_file x a 0 len) phase.Interpreting (λ f un. un)
          (λ b un. (let k = or_parts (a == b) (is_one x.next b) un in
          either_false (a == b) (is_one x.held b) k.0 (ap (λ (o : Option ℕ). is_one o b) is)))
      by (Some held) is true u = to x (phase.JoiningFile held a from len) (λ f un. un)
          (λ b un. (let k = or_parts (held == b) (a == b) un in
          either_false (a == b) (is_one x.held b) k.1 (ap (λ (o : Option ℕ). is_one o b) is ∙ k.0)))
      by o is false true = to x (phase.Writing a) (λ f un. un)
          (λ b un. (let k = or_parts (a == b) (is_one x.held b || is_one x.next b) un in
          either_false (a == b) (is_one x.held b) k.0 (or_parts (is_one x.held b) (is_one x.next b) k.1).0))
      by o is false false = to (with_next x a) phase.Interpreting (λ f un. un)
          (λ b un. (let k = or_parts (is_one x.held b) (a == b) un in either_false (a == b) (is_one x.held b) k.1 k.0))

  -- an aggregate that is neither of the two is no part of the buffered output
  next_used : (x : Collected) (o : Option ℕ) (a b : ℕ) → x.next ≡ o → is_one x.held b ≡ false → is_one o b ≡ false
      → (is_one x.held b || is_one x.next b) ≡ false
  next_used x o a b is held next =
      either_false (is_one x.held b) (is_one x.next b) held (ap (λ (p : Option ℕ). is_one p b) is ∙ next)

  dropped_on : (x : Collected) (a begun : ℕ) (r : Reply) (o : Option ℕ) → x.next ≡ o → Had x (phase.DroppingWritten a)
      → StepsTo m (event.Call d (call.AggDrop a)) r n → HasTo (after_dropping x o begun)
  dropped_on x a begun r None is h step =
      drops x x (phase.DroppingWritten a) phase.Interpreting a r (λ f un. un)
      (λ b differ un. either_false (a == b) (is_one x.held b || is_one x.next b) differ un) h step
  dropped_on x a begun r (Some c) is h step =
      drops x (without_next x) (phase.DroppingWritten a) (phase.Writing c) a r (λ f un. un)
      (λ b differ un. (let k = or_parts (c == b) (is_one x.held b || false) un in
      either_false (a == b) (is_one x.held b || is_one x.next b) differ
      (next_used x (Some c) a b is (or_parts (is_one x.held b) false k.1).0 k.0))) h step

  broken_on : (x : Collected) (a begun : ℕ) (r : Reply) (o : Option ℕ) → x.next ≡ o → Had x (phase.Aborting a)
      → StepsTo m (event.Call d (call.AggDrop a)) r n → HasTo (after_breaking job x o begun)
  broken_on x a begun r None is h step =
      drops x x (phase.Aborting a) phase.Interpreting a r (λ f un. un)
      (λ b differ un. either_false (a == b) (is_one x.held b || is_one x.next b) differ un) h step
  broken_on x a begun r (Some c) is h step =
      drops x (without_next x) (phase.Aborting a) (phase.Aborting c) a r (λ f un. un)
      (λ b differ un. (let k = or_parts (c == b) (is_one x.held b || false) un in
      either_false (a == b) (is_one x.held b || is_one x.next b) differ
      (next_used x (Some c) a b is (or_parts (is_one x.held b) false k.1).0 k.0))) h step

  by_phase : (begun : ℕ) (x : Collected) (y : Phase) (r : Reply) → Had x y
      → StepsTo m (event.Call d (call_at job (at_step y begun x))) r n
      → HasTo (after_reply job (at_step y begun x) (readable_at n d) r)
  by_phase begun x phase.Waiting r h step = tt
  by_phase begun x phase.Interpreting r h step = runs x begun r (expected_now job x begun) refl h step
  by_phase begun x (phase.Reading file u) r h step = reads x file u begun r h step
  by_phase begun x (phase.JoiningFile held a from len) r h step = joined x held a from len begun r h step
  by_phase begun x (phase.CuttingPart held a from) r h step = parted x held a from begun r h step
  by_phase begun x (phase.ReplacingPart a part at) r h step = replaced x a part at begun r h step
  by_phase begun x (phase.DroppingText a part made) r h step =
      drops x x (phase.DroppingText a part made) (phase.DroppingPart part made) a r (λ f un. un)
      (λ b differ un. either_false (a == b) ((part == b) || ((made == b) || (is_one x.held b || is_one x.next b)))
      differ un) h step
  by_phase begun x (phase.DroppingPart part made) r h step =
      interleaves (phase.DroppingPart part made) begun x made
      (λ f given un. free_drop m n d f part r step (h.no_fd f given un))
      (λ b given new held next. after_drop part b r step
      (λ differ. h.no_agg b given (either_false (part == b) ((made == b) || (is_one x.held b || is_one x.next b))
      differ
      (either_false (made == b) (is_one x.held b || is_one x.next b) new
      (either_false (is_one x.held b) (is_one x.next b) held next)))))
  by_phase begun x (phase.Writing a) r h step = writes x a (length (bytes_at (readable_at n d) a)) begun r h step
  by_phase begun x (phase.CuttingRest a from to) r h step = cuts x a from to begun r h step
  by_phase begun x (phase.DroppingOther a) r h step =
      drops x x (phase.DroppingOther a) phase.Waiting a r (λ f un. un) (λ b differ un. differ) h step
  by_phase begun x (phase.DroppingCounted file a s) r h step =
      drops x x (phase.DroppingCounted file a s) (phase.ClosingCounted file s) a r (λ f un. un)
      (λ b differ un. either_false (a == b) (is_one x.held b) differ un) h step
  by_phase begun x (phase.DroppingWritten a) r h step = dropped_on x a begun r x.next refl h step
  by_phase begun x (phase.Aborting a) r h step = broken_on x a begun r x.next refl h step
  by_phase begun x (phase.DroppingTaken a c) r h step =
      drops x x (phase.DroppingTaken a c) (phase.Writing c) a r (λ f un. un)
      (λ b differ un. either_false (a == b) ((c == b) || (is_one x.held b || is_one x.next b)) differ un) h step
  by_phase begun x (phase.ClosingFile file a) r h step =
      shuts x file a (length (bytes_of_one (readable_at n d) x.held)) (length (bytes_at (readable_at n d) a)) begun r h
      step
  by_phase begun x (phase.ClosingCounted file s) r h step =
      closes x _ (phase.ClosingCounted file s) phase.Interpreting file r
      (λ f differ un. either_false (job.fd == f) (file == f) un differ)
      (λ b un. (or_parts (is_one x.held b) (is_one x.next b) un).0) h step

pub call_keeps : CallsServeTheirDomain → RefusalsTellWhy → AggregatesComeAndGo
    → (m n : State) (d : ℕ) (fds aggs : ℕ → Bool) (job : Task) (step next : Step) (r : Reply) → IsOrderly m
    → is_live m d ≡ true → HasJust m d fds aggs job step.piece step.phase
    → StepsTo m (event.Call d (call_at job step)) r n
    → after_reply job step (readable_at n d) r ≡ Some next → HasJust n d fds aggs job next.piece next.phase
call_keeps own why come m n d fds aggs job step next r order live h did is =
    let kept = by_phase own why come m n d fds aggs job order live step.begun step.piece step.phase r h did in
    subst (λ (s : Option Step). HasTo own why come m n d fds aggs job order live s) is kept
