-- A descriptor that is not open stays so over the calls of a worker, except for those that a call opens.
use Rattle.std.proofs.Common.{inl, inr, ◌⊎◌, ◌≡◌, ◌≢◌, ℕ, ◌+◌, List, ◌++◌, length, take, drop, ap, ◌∙◌, refl, subst}
use Rattle.std.proofs.Common.{Option, Some, None}
use Rattle.std.specs.Prelude.{slice_set}
use Rattle.std.proofs.lemmas.Bool.{cases_eq}
use Rattle.iol_core.specs.Text.{Text, bytes_of}
use Rattle.iol_core.specs.NumberedLists.{in_place, lowest}
use Rattle.iol_core.specs.State.{State, Domain, domain, descriptor, content, with_domain, with_content}
use Rattle.iol_core.specs.Run.{StepsTo, called}
use Rattle.iol_core.specs.Calls.Descriptors as fds
use Rattle.iol_core.specs.Calls.Reads as reading
use Rattle.iol_core.specs.Calls.Writes as writing
use Rattle.iol_core.specs.declared.descriptors.Descriptor.{Descriptor}
use Rattle.iol_core.specs.declared.descriptors.Descriptor.TheVariants as on
use Rattle.iol_core.specs.declared.descriptors.Mode.{Mode}
use Rattle.iol_core.specs.declared.events.Call.{Call}
use Rattle.iol_core.specs.declared.events.Call.TheVariants as call
use Rattle.iol_core.specs.declared.events.Event.TheVariants as event
use Rattle.iol_core.specs.declared.events.Reply.{Reply}
use Rattle.iol_core.specs.declared.events.Reply.TheVariants as reply
use Rattle.iol_core.proofs.Lookups.{domain-with_domain, domain-same}
use Rattle.iol_core.proofs.Places.{place-set_other}
use Rattle.iol_laws.proofs.Domains.{domains-closed_on, domains-with_conn, domains-with_pipe}
use Rattle.iol_laws.proofs.Places.{place-set_free, place-placed_other}

-- a refused call changes nothing, and any other call leads to the state of its meaning
after_of : (m n : State) (d : ℕ) (k : Call) (r : Reply) → StepsTo m (event.Call d k) r n
    → (n ≡ m) ⊎ (n ≡ (called m d k).after)
after_of m n d k (reply.Refused x) step = inl step.1
after_of m n d k r step = inr step.2

abbrev IsFree : State → (d f : ℕ) → Type 0
IsFree s d f = descriptor s d f ≡ None

either : (m n t : State) (d f : ℕ) → (n ≡ m) ⊎ (n ≡ t) → IsFree m d f → IsFree t d f → IsFree n d f
either m n t d f (inl same) was now = ap (λ (u : State). descriptor u d f) same ∙ was
either m n t d f (inr same) was now = ap (λ (u : State). descriptor u d f) same ∙ now

same_domains : (s t : State) (d f : ℕ) → t.domains ≡ s.domains → IsFree s d f → IsFree t d f
same_domains s t d f same is = ap (λ (z : Domain Text). in_place z.fds f) (domain-same s t d same) ∙ is

-- after a change of its domain's record
changed : (s : State) (d f : ℕ) (y : Domain Text) → in_place y.fds f ≡ None → IsFree s d f
    → IsFree (with_domain s d y) d f
changed s d f y now is = elim (domain-with_domain s d d y) [
  | inl both ↦ ap (λ (z : Domain Text). in_place z.fds f) both.1 ∙ now
  | inr kept ↦ ap (λ (z : Domain Text). in_place z.fds f) kept ∙ is
]

-- after another descriptor of the domain is set
set : (s : State) (d fd f : ℕ) (x : Descriptor) (o : Option Descriptor) → descriptor s d fd ≡ Some x → IsFree s d f
    → IsFree (fds.with_descriptor s d fd o) d f
set s d fd f x o opened is = changed s d f _ (place-set_other (domain s d).fds fd f o differ ∙ is) is
  where
    differ : fd ≢ f
    differ same = (let e = ap (λ k. descriptor s d k) same in absurd (cc (e, opened, is)))

pub free_make : (m n : State) (d f : ℕ) (bytes : List ℕ) (r : Reply) → StepsTo m (event.Call d (call.AggMake bytes)) r n
    → IsFree m d f → IsFree n d f
free_make m n d f bytes r step is =
    either m n _ d f (after_of m n d (call.AggMake bytes) r step) is (changed m d f _ is is)

pub free_cut : (m n : State) (d f a from to : ℕ) (r : Reply) → StepsTo m (event.Call d (call.AggCut a from to)) r n
    → IsFree m d f → IsFree n d f
free_cut m n d f a from to r step is =
    either m n _ d f (after_of m n d (call.AggCut a from to) r step) is (changed m d f _ is is)

pub free_split : (m n : State) (d f a at : ℕ) (r : Reply) → StepsTo m (event.Call d (call.AggSplit a at)) r n
    → IsFree m d f → IsFree n d f
free_split m n d f a at r step is =
    either m n _ d f (after_of m n d (call.AggSplit a at) r step) is (changed m d f _ is is)

pub free_join : (m n : State) (d f a b : ℕ) (r : Reply) → StepsTo m (event.Call d (call.AggJoin a b)) r n → IsFree m d f
    → IsFree n d f
free_join m n d f a b r step is = either m n _ d f (after_of m n d (call.AggJoin a b) r step) is (changed m d f _ is is)

pub free_replace : (m n : State) (d f a from to b : ℕ) (r : Reply)
    → StepsTo m (event.Call d (call.AggReplace a from to b)) r n → IsFree m d f → IsFree n d f
free_replace m n d f a from to b r step is =
    either m n _ d f (after_of m n d (call.AggReplace a from to b) r step) is (changed m d f _ is is)

pub free_drop : (m n : State) (d f a : ℕ) (r : Reply) → StepsTo m (event.Call d (call.AggDrop a)) r n → IsFree m d f
    → IsFree n d f
free_drop m n d f a r step is = either m n _ d f (after_of m n d (call.AggDrop a) r step) is (changed m d f _ is is)

pub free_set_pool : (m n : State) (d f p : ℕ) (r : Reply) → StepsTo m (event.Call d (call.SetPool p)) r n → IsFree m d f
    → IsFree n d f
free_set_pool m n d f p r step is = either m n _ d f (after_of m n d (call.SetPool p) r step) is (changed m d f _ is is)

free_read_on : (s : State) (d fd f count : ℕ) (o : Option Descriptor) → descriptor s d fd ≡ o → IsFree s d f
    → IsFree (reading.read_on s d fd o count) d f
free_read_on s d fd f count (Some (on.File g at mode)) opened is = set s d fd f (on.File g at mode) _ opened is
free_read_on s d fd f count (Some (on.ReadEnd q)) opened is = same_domains s _ d f (domains-with_pipe s q _) is
free_read_on s d fd f count (Some (on.Connection c)) opened is = same_domains s _ d f (domains-with_conn s c _) is
free_read_on s d fd f count o opened is = is

pub free_read : (m n : State) (d fd f count : ℕ) (r : Reply) → StepsTo m (event.Call d (call.IolRead fd count)) r n
    → IsFree m d f → IsFree n d f
free_read m n d fd f count r step is =
    let taken : Text = reading.read_text m d (descriptor m d fd) count in
    let mid = free_read_on m d fd f (length taken) (descriptor m d fd) refl is in
    either m n _ d f (after_of m n d (call.IolRead fd count) r step) is
    (changed (reading.read_on m d fd (descriptor m d fd) (length taken)) d f _ mid mid)

free_written : (s : State) (d fd f : ℕ) (o : Option Descriptor) (w : Text) → descriptor s d fd ≡ o → IsFree s d f
    → IsFree (writing.written s d fd o w) d f
unfolding with_content
free_written s d fd f (Some (on.File g at mode)) w opened is =
    let filled : State = with_content s g (take at (content s g) ++ bytes_of w ++ drop (at + length w) (content s g)) in
    set filled d fd f (on.File g at mode) _ (ap (λ (z : Domain Text). in_place z.fds fd) (domain-same s filled d refl)
    ∙ opened) (same_domains s filled d f refl is)
free_written s d fd f (Some (on.WriteEnd q)) w opened is = same_domains s _ d f (domains-with_pipe s q _) is
free_written s d fd f (Some (on.Connection c)) w opened is = same_domains s _ d f (domains-with_conn s c _) is
free_written s d fd f o w opened is = is

pub free_write : (m n : State) (d fd f a : ℕ) (r : Reply) → StepsTo m (event.Call d (call.IolWrite fd a)) r n
    → IsFree m d f → IsFree n d f
free_write m n d fd f a r step is =
    either m n _ d f (after_of m n d (call.IolWrite fd a) r step) is
    (free_written m d fd f (descriptor m d fd) _ refl is)

pub free_close : (m n : State) (d fd f : ℕ) (r : Reply) → StepsTo m (event.Call d (call.Close fd)) r n → IsFree m d f
    → IsFree n d f
free_close m n d fd f r step is =
    let closed : State = fds.closed_on m (descriptor m d fd) in
    either m n _ d f (after_of m n d (call.Close fd) r step) is
    (changed closed d f _ freed (same_domains m closed d f (domains-closed_on m (descriptor m d fd)) is))
  where
    freed : in_place (slice_set (domain m d).fds fd None) f ≡ None
    freed = elim (cases_eq fd f) [
      | inl same ↦ subst (λ k. in_place (slice_set (domain m d).fds fd None) k ≡ None) same
          (place-set_free (domain m d).fds fd)
      | inr differ ↦ place-set_other (domain m d).fds fd f None differ ∙ is
    ]

abbrev fd_number : Reply → ℕ
fd_number (reply.Fd g) = g
fd_number r = 0

pub free_open : (m n : State) (d f g : ℕ) (name : List ℕ) (mode : Mode)
    → StepsTo m (event.Call d (call.OpenFile name mode)) (reply.Fd g) n → g ≢ f → IsFree m d f → IsFree n d f
free_open m n d f g name mode step differ is =
    let next : g ≡ lowest (domain m d).fds = ap fd_number step.1 in
    let other : lowest (domain m d).fds ≢ f = λ same. differ (next ∙ same) in
    ap (λ (u : State). descriptor u d f) step.2
    ∙ changed m d f _ (place-placed_other (domain m d).fds f _ other ∙ is) is
