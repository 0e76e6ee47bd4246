-- Effects on pipes and their ends.
use Rattle.std.proofs.Common.{inl, inr, ◌∷◌, ◌++◌, ◌<◌, length, length-append, length-set, ◌≡◌, ◌≢◌, ℕ, ◌+◌, ◌≤◌, ◌==◌}
use Rattle.std.specs.List.{AllByRecursion}
use Rattle.std.proofs.Common.{List, [], ap, ◌∙◌, refl, sym, subst, arith, Option, Some, None, true, false}
use Rattle.std.specs.Prelude.{slice_set, nat_lt, not, ◌&&◌, if◌then◌else◌, Bool}
use Rattle.std.proofs.lemmas.Bool.Decides.{nat_tests}
use Rattle.std.proofs.lemmas.Bool.{cases_lt}
use Rattle.iol_core.specs.declared.limits.TheConstants.{MAX_PIPES, MAX_OPEN}
use Rattle.iol_hold.proofs.Counts.{tally_none}
use Rattle.iol_kernel.proofs.State.TableCalls.{answers_here}
use Rattle.iol_kernel.proofs.State.Uses.{uses-placed}
use Rattle.iol_core.specs.NumberedLists.{in_place, placed, lowest, taken}
use Rattle.iol_core.specs.State as machine
use Rattle.iol_core.specs.State.{State, Domain, new_pipe}
use Rattle.iol_core.specs.Calls.Descriptors as fds
use Rattle.iol_core.specs.Calls.Descriptors.{with_read_end}
use Rattle.iol_core.specs.declared.descriptors.Descriptor.{Descriptor}
use Rattle.iol_core.specs.declared.descriptors.Descriptor.TheVariants as on
use Rattle.iol_hold.specs.declared.slices.Slice.{Slice}
use Rattle.iol_hold.proofs.ReadSlices.{readable_none}
use Rattle.iol_desc.specs.Tables.{domain_in, with_domain_in, with_fds_in, with_next_fd, with_ends}
use Rattle.iol_kernel.specs.Views.{Pipe, Objects, state_view}
use Rattle.iol_kernel.specs.EndCounts.{same_end, ends_on, all_ends_on, IsOpenOnce}
use Rattle.iol_kernel.specs.KernelState.{KernelState, objects_of, IsOpenEnd, IsPipeReadable, IsSound, IsShort}
use Rattle.iol_kernel.specs.KernelState.{read_of}
use Rattle.iol_kernel.specs.ClosedEnds.{IsLetGo}
use Rattle.iol_kernel.specs.NewDescriptors.{MayGiveFd, MayPipe}
use Rattle.iol_kernel.specs.OpenDescriptors.{IsOpenOn}
use Rattle.iol_kernel.specs.Queues.{empty_pipe}
use Rattle.iol_kernel.specs.Readings.{Reading, bytes_over}
use Rattle.iol_kernel.proofs.State.Views.{add_pipe-view, lowest-view}
use Rattle.iol_kernel.proofs.State.Sound.{with_pipes, each-set, each-get, each-weaker, each-placed, ends_open}
use Rattle.iol_kernel.proofs.State.Once.{end_alone, ends-with_domain, ends-placed, ends-freed, once_fewer, once_freed}
use Rattle.iol_kernel.proofs.State.Once.{both_once, all_ends_closed}
use Rattle.iol_kernel.proofs.Queues.EndCounts.{ends_placed, lowest_closed, new_reading, new_writing}
use Rattle.iol_kernel.proofs.State.Effects.{fds-sound, fds-changed}
use Rattle.iol_kernel.proofs.State.Rows.{domain_in-with_other, with_domain_in-comm}
use Rattle.iol_kernel.proofs.State.ReadOf.{descriptor-read_of, fds-read_of, live_held, lowest-read_of, open_row}
use Rattle.iol_kernel.proofs.State.ReadOf.{taken_pipes-read_of}
use Rattle.iol_kernel.specs.Calls.{Answers}
use Rattle.std.specs.Option.{option_map_or}

-- a new pipe, with both ends in a domain

abbrev pub ends_of : List (Option Descriptor) → (pipe : ℕ) → ℕ × ℕ
ends_of xs p = (lowest xs, lowest (with_read_end xs p))

ends-read : (f : Reading) (h : KernelState) (d : ℕ)
    → (fds.pipe (read_of f h) d).answer ≡ ends_of (domain_in h.domains d).fds (lowest h.pipes)
ends-read f h d =
    ap (λ (xs : List (Option Descriptor)). ends_of xs (lowest (read_of f h).pipes)) (fds-read_of f h d)
    ∙ ap (λ n. ends_of (domain_in h.domains d).fds n) (lowest-read_of f h)

abbrev piped : State → (d : ℕ) → List (Option Descriptor) → (pipe : ℕ) → State
piped m d xs n = record (fds.with_fds m d (with_ends xs n)) { pipes = placed m.pipes n new_pipe }

piped-read : (f : Reading) (h : KernelState) (ds : List (Domain (List Slice))) (qs : List (Option (Pipe (List Slice))))
    (d : ℕ) → ds ≡ with_fds_in h.domains d (with_ends (domain_in h.domains d).fds (lowest h.pipes))
    → qs ≡ placed h.pipes (lowest h.pipes) empty_pipe
    → read_of f (record h { domains = ds; pipes = qs }) ≡ (fds.pipe (read_of f h) d).after
unfolding read_of machine.with_domain
piped-read f h ds qs d domains' pipes' =
    ap (λ (ys : List (Option (Pipe (List Slice)))). state_view f ds h.store.pools
    (record (objects_of h) { pipes = ys })) pipes'
    ∙ add_pipe-view f ds h.store.pools (objects_of h) (lowest h.pipes) empty_pipe
    ∙ ap (λ (x : State). record x { pipes = placed x.pipes (lowest h.pipes) new_pipe })
    (fds-changed f h ds d (with_ends (domain_in h.domains d).fds (lowest h.pipes)) domains')
    ∙ ap (λ (xs : List (Option Descriptor)). piped (read_of f h) d xs (lowest h.pipes)) (sym (fds-read_of f h d))
    ∙ ap (λ n. piped (read_of f h) d (machine.domain (read_of f h) d).fds n)
    (sym (lowest-view f h.domains h.store.pools (objects_of h)))

lowest_few : {A : Type 0} (xs : List (Option A)) → lowest xs ≤ taken xs
lowest_few [] = omega arith
lowest_few (None ∷ xs) = omega arith
lowest_few (Some x ∷ xs) = omega (arith, lowest_few xs)

length-placed : (qs : List (Option (Pipe (List Slice)))) (x : Pipe (List Slice)) → length qs ≤ MAX_PIPES
    → taken qs < MAX_PIPES → length (placed qs (lowest qs) x) ≤ MAX_PIPES
length-placed qs x few free = elim (cases_lt (lowest qs) (length qs)) [
  | inl k ↦ (let p : placed qs (lowest qs) x ≡ slice_set qs (lowest qs) (Some x) = grind (arith, nat_tests, k) in
      omega (arith, ap length p, length-set qs (lowest qs) (Some x), few))
  | inr k ↦ (let p : placed qs (lowest qs) x ≡ qs ++ Some x ∷ [] = grind (arith, nat_tests, k) in
      omega (arith, ap length p, length-append qs (Some x ∷ []), lowest_few qs, k, free))
]

-- its ends are open only there
once_piped : (h : KernelState) (d : ℕ) → IsSound h → (domain_in h.domains d).live ≡ true
    → IsOpenOnce (with_fds_in h.domains d (with_ends (domain_in h.domains d).fds (lowest h.pipes)))
once_piped h d sound live =
    let n : ℕ = lowest h.pipes in
    let xs : List (Option Descriptor) = (domain_in h.domains d).fds in
    let closed = lowest_closed h.pipes in
    record {
      each =
          λ e. (let total = ends-with_domain e h.domains d (record (domain_in h.domains d) { fds = with_ends xs n })
          live in
          let once = both_once e n (all_ends_on e h.domains) (sound.once.each e)
          (λ is. ap (λ (x : Descriptor). all_ends_on x h.domains) is
          ∙ all_ends_closed (objects_of h) (on.ReadEnd n) closed.0 h.domains sound.fds)
          (λ is. ap (λ (x : Descriptor). all_ends_on x h.domains) is
          ∙ all_ends_closed (objects_of h) (on.WriteEnd n) closed.1 h.domains sound.fds) in
          omega (
            arith,
            total,
            once,
            ends-placed e (on.ReadEnd n) xs,
            ends-placed e (on.WriteEnd n) (with_read_end xs n),
          ));
    }

piped-sound : (h : KernelState) (ds : List (Domain (List Slice))) (qs : List (Option (Pipe (List Slice)))) (d : ℕ)
    → IsSound h → (domain_in h.domains d).live ≡ true → taken h.pipes < MAX_PIPES
    → ds ≡ with_fds_in h.domains d (with_ends (domain_in h.domains d).fds (lowest h.pipes))
    → qs ≡ placed h.pipes (lowest h.pipes) empty_pipe → IsSound (record h { domains = ds; pipes = qs })
piped-sound h ds qs d sound live few domains' pipes' =
    let more : List (Option (Pipe (List Slice))) = placed h.pipes (lowest h.pipes) empty_pipe in
    let k : KernelState = record h { pipes = more } in
    let o : Objects (List Slice) = objects_of k in
    let sound' : IsSound k = record {
      domains = sound.domains;
      objects =
          record {
            pipes = each-placed (IsPipeReadable h.store) h.pipes (lowest h.pipes) empty_pipe sound.objects.pipes
                (readable_none h.store);
            conns = sound.objects.conns;
            files = sound.objects.files;
          };
      once = sound.once;
      counted =
          record { each = λ b. omega (arith, sound.counted.each b, uses-placed b h.pipes empty_pipe, tally_none b) };
      tidy = sound.tidy;
      still = sound.still;
      reclaimed = sound.reclaimed;
      pooled = sound.pooled;
      sums = sound.sums;
      filed = sound.filed;
      cached = sound.cached;
      limits = record {
        aggs = sound.limits.aggs;
        few = sound.limits.few;
        objects =
            with_pipes sound.limits.objects
            (each-placed IsShort h.pipes (lowest h.pipes) empty_pipe sound.limits.objects.queues (omega arith))
            (length-placed h.pipes empty_pipe sound.limits.objects.few_pipes few);
      };
      fds =
          each-weaker (λ (x : Domain (List Slice)). AllByRecursion (IsOpenEnd (objects_of h)) x.fds)
          (λ (x : Domain (List Slice)). AllByRecursion (IsOpenEnd o) x.fds) h.domains
          (λ x e. ends_placed (objects_of h) empty_pipe x.fds e) sound.fds;
    } in
    let xs : List (Option Descriptor) = (domain_in h.domains d).fds in
    let first : AllByRecursion (IsOpenEnd o) (with_read_end xs (lowest h.pipes)) =
    each-placed (IsOpenEnd o) xs (lowest xs) (on.ReadEnd (lowest h.pipes)) (ends_open k d sound')
    (new_reading h.pipes empty_pipe) in
    let second : AllByRecursion (IsOpenEnd o) (with_ends xs (lowest h.pipes)) =
    each-placed (IsOpenEnd o) (with_read_end xs (lowest h.pipes)) (lowest (with_read_end xs (lowest h.pipes)))
    (on.WriteEnd (lowest h.pipes)) first (new_writing h.pipes empty_pipe) in
    subst (λ (ys : List (Option (Pipe (List Slice)))). IsSound (record h { domains = ds; pipes = ys })) (sym pipes')
    (fds-sound k ds d (with_ends xs (lowest h.pipes)) sound' live domains' second (once_piped h d sound live))

pub piped_answers : (h : KernelState) (ds : List (Domain (List Slice))) (qs : List (Option (Pipe (List Slice)))) (d : ℕ)
    (r : ℕ × ℕ) → MayPipe d h → r ≡ ends_of (domain_in h.domains d).fds (lowest h.pipes)
    → ds ≡ with_fds_in h.domains d (with_ends (domain_in h.domains d).fds (lowest h.pipes))
    → qs ≡ placed h.pipes (lowest h.pipes) empty_pipe
    → Answers (λ s. fds.pipe s d) h r (record h { domains = ds; pipes = qs })
piped_answers h ds qs d r may numbers domains' pipes' =
    let f = bytes_over [] h.store in
    answers_here (λ s. fds.pipe s d) h (record h { domains = ds; pipes = qs }) r
    (piped-sound h ds qs d may.lives.sound (live_held f h d may.lives.live)
    (subst (λ n. n < MAX_PIPES) (taken_pipes-read_of f h) may.few_pipes) domains' pipes') refl refl (λ f. numbers
    ∙ sym (ends-read f h d)) refl (λ f. piped-read f h ds qs d domains' pipes')

few_open : (n k : ℕ) → nat_lt MAX_OPEN (n + k) ≡ false → n + k ≤ MAX_OPEN
few_open n k few = grind (arith, nat_tests, few)

pub few_open_held : (f : Reading) (h : KernelState) (d k : ℕ) → fds.too_many_open (read_of f h) d k ≡ false
    → taken (domain_in h.domains d).fds + k ≤ MAX_OPEN
few_open_held f h d k few =
    subst (λ (xs : List (Option Descriptor)). taken xs + k ≤ MAX_OPEN) (fds-read_of f h d)
    (few_open (taken (machine.domain (read_of f h) d).fds) k few)

-- a descriptor is closed
pub freed-sound : (h : KernelState) (ds : List (Domain (List Slice))) (d fd : ℕ) (x : Descriptor) → IsSound h
    → (domain_in h.domains d).live ≡ true → in_place (domain_in h.domains d).fds fd ≡ Some x
    → ds ≡ with_fds_in h.domains d (slice_set (domain_in h.domains d).fds fd None) → IsSound (record h { domains = ds })
freed-sound h ds d fd x sound live there is =
    fds-sound h ds d (slice_set (domain_in h.domains d).fds fd None) sound live is
    (each-set (IsOpenEnd (objects_of h)) (domain_in h.domains d).fds fd None (ends_open h d sound) tt)
    (once_freed h.domains d fd x live there sound.once)

-- then no other is open on its end
pub freed-alone : (h : KernelState) (ds : List (Domain (List Slice))) (d fd : ℕ) (x : Descriptor) → IsSound h
    → (domain_in h.domains d).live ≡ true → in_place (domain_in h.domains d).fds fd ≡ Some x
    → ds ≡ with_fds_in h.domains d (slice_set (domain_in h.domains d).fds fd None) → all_ends_on x ds ≡ 0
freed-alone h ds d fd x sound live there is = (end_alone x [] ds once).0
  where
    once : all_ends_on x ds + (same_end x x + ends_on x []) ≤ 1
    once = omega (
      arith,
      ap (all_ends_on x) is,
      sound.once.each x,
      ends-with_domain x h.domains d
          (record (domain_in h.domains d) { fds = slice_set (domain_in h.domains d).fds fd None }) live,
      ends-freed x x (domain_in h.domains d).fds fd there,
    )

-- the object of a descriptor

pub end_held : (f : Reading) (h : KernelState) (d fd : ℕ) (x : Descriptor) → IsSound h
    → machine.descriptor (read_of f h) d fd ≡ Some x → IsOpenEnd (objects_of h) (Some x)
end_held f h d fd x sound is =
    subst (IsOpenEnd (objects_of h)) (sym (descriptor-read_of f h d fd) ∙ is)
    (each-get (IsOpenEnd (objects_of h)) (domain_in h.domains d).fds fd None (ends_open h d sound) tt)

pub open_in : {h : KernelState} {d fd : ℕ} {x : Descriptor} → IsOpenOn h d fd x
    → in_place (domain_in h.domains d).fds fd ≡ Some x
open_in {h} {d} {fd} held = sym (descriptor-read_of (bytes_over [] h.store) h d fd) ∙ held.from (bytes_over [] h.store)

pub open_end : {h : KernelState} {d fd : ℕ} {x : Descriptor} → IsOpenOn h d fd x → IsOpenEnd (objects_of h) (Some x)
open_end {h} {d} {fd} {x} held =
    end_held (bytes_over [] h.store) h d fd x held.sound (held.from (bytes_over [] h.store))

pub let_go : (h : KernelState) (ds : List (Domain (List Slice))) (d fd : ℕ) (x : Descriptor) → IsOpenOn h d fd x
    → ds ≡ with_fds_in h.domains d (slice_set (domain_in h.domains d).fds fd None)
    → IsLetGo (record h { domains = ds }) x
let_go h ds d fd x held is =
    record {
      sound = freed-sound h ds d fd x held.sound (open_row held) (open_in held) is;
      opened = open_end held;
      free = freed-alone h ds d fd x held.sound (open_row held) (open_in held) is;
    }

-- a descriptor moves

pub freed-read_of : (f : Reading) (h : KernelState) (d fd : ℕ)
    → fds.freed (read_of f h) d fd ≡ slice_set (domain_in h.domains d).fds fd None
freed-read_of f h d fd = ap (λ (xs : List (Option Descriptor)). slice_set xs fd None) (fds-read_of f h d)

-- the machine's state after the gift of x
gift : (f : Reading) (h : KernelState) (d fd to : ℕ) (x : Descriptor) → in_place (domain_in h.domains d).fds fd ≡ Some x
    → (fds.give_fd (read_of f h) d fd to).after ≡ fds.given_to (read_of f h) d fd to x
gift f h d fd to x there =
    ap (λ (o : Option Descriptor). option_map_or (fds.given_to (read_of f h) d fd to) o (read_of f h))
    (descriptor-read_of f h d fd ∙ there)

-- within a domain

within-number : (f : Reading) (h : KernelState) (d fd to n : ℕ) → d ≡ to
    → n ≡ lowest (slice_set (domain_in h.domains d).fds fd None)
    → n ≡ (if d == to then lowest (fds.freed (read_of f h) d fd) else fds.next_fd (read_of f h) to)
within-number f h d fd to n same is = let e = ap lowest (freed-read_of f h d fd) in
    grind (arith, nat_tests, e, is, same)

within-read : (f : Reading) (h : KernelState) (ds : List (Domain (List Slice))) (d fd to : ℕ) (x : Descriptor) → d ≡ to
    → ds
    ≡ with_fds_in h.domains d
    (placed (slice_set (domain_in h.domains d).fds fd None) (lowest (slice_set (domain_in h.domains d).fds fd None)) x)
    → read_of f (record h { domains = ds }) ≡ fds.given_to (read_of f h) d fd to x
within-read f h ds d fd to x same is =
    fds-changed f h ds d
    (placed (slice_set (domain_in h.domains d).fds fd None) (lowest (slice_set (domain_in h.domains d).fds fd None))
    x) is
    ∙ ap (λ (xs : List (Option Descriptor)). fds.with_fds (read_of f h) d (placed xs (lowest xs) x))
    (sym (freed-read_of f h d fd))
    ∙ pick
  where
    pick : fds.with_fds (read_of f h) d (placed (fds.freed (read_of f h) d fd) (lowest (fds.freed (read_of f h) d fd))
        x) ≡ fds.given_to (read_of f h) d fd to x
    pick = grind (arith, nat_tests, same)

within-sound : (h : KernelState) (ds : List (Domain (List Slice))) (d fd : ℕ) (x : Descriptor) → IsSound h
    → (domain_in h.domains d).live ≡ true → in_place (domain_in h.domains d).fds fd ≡ Some x
    → IsOpenEnd (objects_of h) (Some x)
    → ds
    ≡ with_fds_in h.domains d
    (placed (slice_set (domain_in h.domains d).fds fd None) (lowest (slice_set (domain_in h.domains d).fds fd None)) x)
    → IsSound (record h { domains = ds })
within-sound h ds d fd x sound live there open' is =
    let xs : List (Option Descriptor) = slice_set (domain_in h.domains d).fds fd None in
    fds-sound h ds d (placed xs (lowest xs) x) sound live is
    (each-placed (IsOpenEnd (objects_of h)) xs (lowest xs) x
    (each-set (IsOpenEnd (objects_of h)) (domain_in h.domains d).fds fd None (ends_open h d sound) tt) open')
    (once_fewer h.domains d (record (domain_in h.domains d) { fds = placed xs (lowest xs) x }) live
    (λ e. omega (arith, ends-placed e x xs, ends-freed e x (domain_in h.domains d).fds fd there)) sound.once)

pub moved_within : (h : KernelState) (ds : List (Domain (List Slice))) (d fd to n : ℕ) (x : Descriptor)
    → MayGiveFd d fd to x h → d ≡ to → n ≡ lowest (slice_set (domain_in h.domains d).fds fd None)
    → ds
    ≡ with_fds_in h.domains d
    (placed (slice_set (domain_in h.domains d).fds fd None) (lowest (slice_set (domain_in h.domains d).fds fd None))
    x) → Answers (λ s. fds.give_fd s d fd to) h n (record h { domains = ds })
moved_within h ds d fd to n x may same number is =
    answers_here (λ s. fds.give_fd s d fd to) h (record h { domains = ds }) n
    (within-sound h ds d fd x may.held.sound (open_row may.held) (open_in may.held) (open_end may.held) is) refl
    refl (λ f. within-number f h d fd to n same number) refl (λ f. within-read f h ds d fd to x same is
    ∙ sym (gift f h d fd to x (open_in may.held)))

-- across domains

abbrev opened_in : List (Domain (List Slice)) → (d : ℕ) → Descriptor → List (Domain (List Slice))
opened_in ds d x = with_fds_in ds d (with_next_fd (domain_in ds d).fds x)

pub other_live : (ds ms : List (Domain (List Slice))) (d to : ℕ) (x : Descriptor) → to ≢ d → ms ≡ opened_in ds to x
    → (domain_in ds d).live ≡ true → (domain_in ms d).live ≡ true
other_live ds ms d to x differ is live =
    ap (λ (ys : List (Domain (List Slice))). (domain_in ys d).live) is
    ∙ ap (λ (y : Domain (List Slice)). y.live) (domain_in-with_other ds to d _ differ) ∙ live

pub other_fds : (ds ms : List (Domain (List Slice))) (d to : ℕ) (x : Descriptor) → to ≢ d → ms ≡ opened_in ds to x
    → (domain_in ms d).fds ≡ (domain_in ds d).fds
other_fds ds ms d to x differ is =
    ap (λ (ys : List (Domain (List Slice))). (domain_in ys d).fds) is
    ∙ ap (λ (y : Domain (List Slice)). y.fds) (domain_in-with_other ds to d _ differ)

across-number : (f : Reading) (h : KernelState) (d fd to n : ℕ) → d ≢ to → n ≡ lowest (domain_in h.domains to).fds
    → n ≡ (if d == to then lowest (fds.freed (read_of f h) d fd) else fds.next_fd (read_of f h) to)
across-number f h d fd to n differ is = let e = ap lowest (fds-read_of f h to) in
    grind (arith, nat_tests, e, is, differ)

across-read : (f : Reading) (h : KernelState) (ms ds : List (Domain (List Slice))) (d fd to : ℕ) (x : Descriptor)
    → d ≢ to → ms ≡ opened_in h.domains to x → ds ≡ with_fds_in ms d (slice_set (domain_in ms d).fds fd None)
    → read_of f (record h { domains = ds }) ≡ fds.given_to (read_of f h) d fd to x
across-read f h ms ds d fd to x differ opened' closed' =
    fds-changed f (record h { domains = ms }) ds d (slice_set (domain_in ms d).fds fd None) closed'
    ∙ ap (λ (s : State). fds.with_fds s d (slice_set (domain_in ms d).fds fd None))
    (fds-changed f h ms to (placed (domain_in h.domains to).fds (lowest (domain_in h.domains to).fds) x) opened')
    ∙ ap (λ (xs : List (Option Descriptor)). fds.with_fds (fds.with_fds (read_of f h) to (placed xs (lowest xs) x)) d
    (slice_set (domain_in ms d).fds fd None)) (sym (fds-read_of f h to))
    ∙ ap (λ (xs : List (Option Descriptor)). fds.with_fds (fds.opened (read_of f h) to x) d (slice_set xs fd None))
    (other_fds h.domains ms d to x (λ e. differ (sym e)) opened' ∙ sym (fds-read_of f h d))
    ∙ pick
  where
    pick : fds.with_fds (fds.opened (read_of f h) to x) d (fds.freed (read_of f h) d fd) ≡ fds.given_to (read_of f h) d
        fd to x
    pick = grind (arith, nat_tests, differ)

across-turned : (ds ms : List (Domain (List Slice))) (d fd to : ℕ) (x : Descriptor) → d ≢ to → ms ≡ opened_in ds to x
    → with_fds_in ms d (slice_set (domain_in ms d).fds fd None)
    ≡ opened_in (with_fds_in ds d (slice_set (domain_in ds d).fds fd None)) to x
across-turned ds ms d fd to x differ is =
    let xs : List (Option Descriptor) = (domain_in ds to).fds in
    let got : Domain (List Slice) = record (domain_in ds to) { fds = placed xs (lowest xs) x } in
    let less : Domain (List Slice) = record (domain_in ds d) { fds = slice_set (domain_in ds d).fds fd None } in
    let freed : Domain (List Slice) → Domain (List Slice) = λ y. record y { fds = slice_set y.fds fd None } in
    let opened : Domain (List Slice) → Domain (List Slice) = λ y. record y { fds = placed y.fds (lowest y.fds) x } in
    ap (λ (ys : List (Domain (List Slice))). with_domain_in ys d (freed (domain_in ys d))) is
    ∙ ap (λ (y : Domain (List Slice)). with_domain_in (with_domain_in ds to got) d (freed y))
    (domain_in-with_other ds to d got (λ e. differ (sym e)))
    ∙ with_domain_in-comm ds to d got less (λ e. differ (sym e))
    ∙ ap (λ (y : Domain (List Slice)). with_domain_in (with_domain_in ds d less) to (opened y))
    (sym (domain_in-with_other ds d to less differ))

across-sound : (h : KernelState) (ms ds : List (Domain (List Slice))) (d fd to : ℕ) (x : Descriptor) → IsSound h
    → d ≢ to → (domain_in h.domains to).live ≡ true → (domain_in h.domains d).live ≡ true
    → in_place (domain_in h.domains d).fds fd ≡ Some x → IsOpenEnd (objects_of h) (Some x)
    → ms ≡ opened_in h.domains to x → ds ≡ with_fds_in ms d (slice_set (domain_in ms d).fds fd None)
    → IsSound (record h { domains = ds })
across-sound h ms ds d fd to x sound differ to_live live there open' opened' closed' =
    let less : List (Domain (List Slice)) = with_fds_in h.domains d (slice_set (domain_in h.domains d).fds fd None) in
    let k : KernelState = record h { domains = less } in
    let mid : IsSound k = freed-sound h less d fd x sound live there refl in
    let y : Domain (List Slice) = domain_in less to in
    let same : y ≡ domain_in h.domains to = domain_in-with_other h.domains d to _ differ in
    let live' : y.live ≡ true = ap (λ (z : Domain (List Slice)). z.live) same ∙ to_live in
    let last : List (Option Descriptor) = placed y.fds (lowest y.fds) x in
    let once : IsOpenOnce (with_fds_in less to last) = record {
      each = λ e. omega (
        arith,
        sound.once.each e,
        ends-with_domain e h.domains d
            (record (domain_in h.domains d) { fds = slice_set (domain_in h.domains d).fds fd None }) live,
        ends-freed e x (domain_in h.domains d).fds fd there,
        ends-with_domain e less to (record y { fds = last }) live',
        ends-placed e x y.fds,
      );
    } in
    fds-sound k ds to last mid live' (closed' ∙ across-turned h.domains ms d fd to x differ opened')
    (each-placed (IsOpenEnd (objects_of h)) y.fds (lowest y.fds) x (ends_open k to mid) open') once

pub moved_across : (h : KernelState) (ms ds : List (Domain (List Slice))) (d fd to n : ℕ) (x : Descriptor)
    → MayGiveFd d fd to x h → d ≢ to → n ≡ lowest (domain_in h.domains to).fds → ms ≡ opened_in h.domains to x
    → ds ≡ with_fds_in ms d (slice_set (domain_in ms d).fds fd None)
    → Answers (λ s. fds.give_fd s d fd to) h n (record h { domains = ds })
moved_across h ms ds d fd to n x may differ number opened' closed' =
    answers_here (λ s. fds.give_fd s d fd to) h (record h { domains = ds }) n
    (across-sound h ms ds d fd to x may.held.sound differ (live_held (bytes_over [] h.store) h to may.to)
    (open_row may.held) (open_in may.held) (open_end may.held) opened' closed') refl refl
    (λ f. across-number f h d fd to n differ number) refl
    (λ f. across-read f h ms ds d fd to x differ opened' closed' ∙ sym (gift f h d fd to x (open_in may.held)))

pub not_none : {A : Type 0} (o p : Option A) (x : A) → p ≡ Some x → o ≡ p → o ≡ None → ⊥
not_none o p x is same none = cc

pub few_to : (f : Reading) (h : KernelState) (d to : ℕ) → d ≢ to
    → (not (d == to) && fds.too_many_open (read_of f h) to 1) ≡ false
    → taken (domain_in h.domains to).fds + 1 ≤ MAX_OPEN
few_to f h d to differ few =
    few_open_held f h to 1 (pick (nat_lt MAX_OPEN (taken (machine.domain (read_of f h) to).fds + 1)) few)
  where
    pick : (b : Bool) → (not (d == to) && b) ≡ false → b ≡ false
    pick b e = grind (arith, nat_tests, e, differ)
