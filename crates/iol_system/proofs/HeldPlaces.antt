-- Each byte of an aggregate keeps its place, unless the event gives the aggregate up.
use Rattle.std.proofs.Common.{inl, inr, ◌≡◌, ◌⊎◌, ℕ, ◌+◌, List, [], ◌++◌, length, take, drop, Option, Some, None, ap}
use Rattle.std.proofs.Common.{◌∙◌, refl, sym, subst}
use Rattle.std.specs.Prelude.{option_map, slice_set, Result, Ok, Err, OnOk, OnErr, IfOk}
use Rattle.iol_core.specs.State.{State, aggregate, content, conn_at, descriptor, domain, pipe_at, with_content}
use Rattle.iol_core.specs.Text.{Text, bytes_of}
use Rattle.iol_core.specs.Meaning.{Meaning}
use Rattle.iol_core.specs.Run.{StepsTo}
use Rattle.iol_core.specs.Values.{ValuesStay}
use Rattle.iol_core.specs.Calls.Aggregates.{with_agg}
use Rattle.iol_core.specs.Calls.Descriptors.{with_fds}
use Rattle.iol_core.specs.Calls.Files as files
use Rattle.iol_core.specs.Calls.Outside as outside
use Rattle.iol_core.specs.Calls.Reads as reading
use Rattle.iol_core.specs.Calls.Reads.{read_on}
use Rattle.iol_core.specs.Calls.Writes.{written}
use Rattle.iol_core.specs.declared.descriptors.Descriptor.{Descriptor}
use Rattle.iol_core.specs.declared.descriptors.Descriptor.TheVariants as on
use Rattle.iol_core.specs.declared.events.Event.{Event}
use Rattle.iol_core.specs.declared.events.Reply.{Reply}
use Rattle.iol_core.specs.declared.refusals.Refusal.{Refusal}
use Rattle.iol_core.proofs.Values.{KeepsValues, nothing, values_conn, values_content, values_fds, values_pipe}
use Rattle.iol_core.proofs.Values.{values_step, values_then, values_with_agg}
use Rattle.iol_back.specs.Disk.{Disk}
use Rattle.iol_hold.specs.Layout.{number_at}
use Rattle.iol_hold.specs.Places.{byte_len}
use Rattle.iol_hold.specs.StoreState.{Stored}
use Rattle.iol_hold.specs.declared.slices.Slice.{Slice}
use Rattle.iol_hold.proofs.AtPlaces.{keeps_numbers}
use Rattle.iol_kernel.specs.Calls.{MakesBytes, with_incoming}
use Rattle.iol_kernel.specs.FileReads.{FileRead, GivesCopy, GivesRead}
use Rattle.iol_kernel.specs.FileWrites.{GivesUpNew, LaysInFile, LaysOver, LeavesUnlaid, OnlyMoves}
use Rattle.iol_kernel.specs.KernelState.{KernelState, layout_of, objects_of, read_of}
use Rattle.iol_kernel.specs.Readings.{KeepsPools, Reading, read}
use Rattle.iol_kernel.specs.Room.{AfterRoom, MakesRoom, MayHaveEvicted, Places}
use Rattle.iol_kernel.proofs.State.Views.{aggregate-view, with_agg-view, with_fds-view}
use Rattle.iol_desc.specs.Tables.{agg_in, fds_in, with_agg_in, with_fds_in}

abbrev pub Held : (old new : KernelState) → Event → Type 0
Held old new e = ValuesStay (layout_of old) e (layout_of new)

-- each aggregate keeps its places
abbrev pub HoldsAll : (old new : KernelState) → Type 0
HoldsAll old new = KeepsValues (layout_of old) (layout_of new) nothing

-- the reading of bytes as the numbers of their places
abbrev pub numbers : Reading
numbers = record { at = number_at; stored = [] }

pub all_held : (old new : KernelState) (e : Event) → HoldsAll old new → Held old new e
all_held old new e all = record { each = λ d a t is kept. all d a t is refl }

pub step_held : (old new : KernelState) (e : Event) (r : Reply) → StepsTo (layout_of old) e r (layout_of new)
    → Held old new e
step_held old new e r step = values_step (layout_of old) (layout_of new) e r step

-- From the tables of the domains.

pub laid : (h : KernelState) (d a : ℕ) → aggregate (layout_of h) d a ≡ option_map (read numbers) (agg_in h.domains d a)
unfolding read_of
laid h d a = aggregate-view numbers h.domains h.store.pools (objects_of h) d a

pub tables_hold : (old new : KernelState) → new.domains ≡ old.domains → HoldsAll old new
tables_hold old new same d a t is kept = laid new d a ∙ ap (λ ds. option_map (read numbers) (agg_in ds d a)) same
    ∙ sym (laid old d a) ∙ is

pub same_held : (old new : KernelState) (e : Event) → new ≡ old → Held old new e
same_held old new e same = all_held old new e (tables_hold old new (ap (λ (h : KernelState). h.domains) same))

fds_law : (h : KernelState) (by : ℕ) (xs : List (Option Descriptor))
    → layout_of (record h { domains = with_fds_in h.domains by xs }) ≡ with_fds (layout_of h) by xs
unfolding read_of
fds_law h by xs = with_fds-view numbers h.domains h.store.pools (objects_of h) by xs

agg_law : (h : KernelState) (by : ℕ) (xs : List Slice) → layout_of (record h { domains = with_agg_in h.domains by xs })
    ≡ with_agg (layout_of h) by (read numbers xs)
unfolding read_of
agg_law h by xs = with_agg-view numbers h.domains h.store.pools (objects_of h) by xs

pub fds_hold : (old new : KernelState) (by : ℕ) (xs : List (Option Descriptor))
    → new.domains ≡ with_fds_in old.domains by xs → HoldsAll old new
fds_hold old new by xs is =
    let mid : KernelState = record old { domains = with_fds_in old.domains by xs } in
    values_then (layout_of old) (layout_of mid) (layout_of new) nothing
    (subst (λ (s : State). KeepsValues (layout_of old) s nothing) (sym (fds_law old by xs))
    (values_fds (layout_of old) by xs)) (tables_hold mid new is)

pub agg_holds : (old new : KernelState) (by : ℕ) (xs : List Slice) → new.domains ≡ with_agg_in old.domains by xs
    → HoldsAll old new
agg_holds old new by xs is =
    let mid : KernelState = record old { domains = with_agg_in old.domains by xs } in
    values_then (layout_of old) (layout_of mid) (layout_of new) nothing
    (subst (λ (s : State). KeepsValues (layout_of old) s nothing) (sym (agg_law old by xs))
    (values_with_agg (layout_of old) by (read numbers xs))) (tables_hold mid new is)

-- From the state after a call, as the machine's meaning gives it for places.

pub after_held : {A : Type 0} (m : State → Meaning A) (old new : KernelState) (r : Result A Refusal) (e : Event)
    → ((s : State) → KeepsValues s (m s).after nothing)
    → OnOk r ((f : Reading) → KeepsPools f → read_of f new ≡ (m (read_of f old)).after) → OnErr r (new ≡ old)
    → Held old new e
after_held m old new (Ok x) e keeps places refused =
    all_held old new e
    (subst (λ (s : State). KeepsValues (layout_of old) s nothing) (sym (places numbers keeps_numbers))
    (keeps (layout_of old)))
after_held m old new (Err x) e keeps places refused = same_held old new e refused

-- New bytes in a pool.

roomy_holds : (pool pages : ℕ) (old new : KernelState) → MakesRoom pool pages old new → HoldsAll old new
roomy_holds pool pages old new room = tables_hold old new (ap (λ (h : KernelState). h.domains) room.rest)

made_holds : (put : State → Text → State) (pool n : ℕ) (old new : KernelState)
    → ((s : State) (t : Text) → KeepsValues s (put s t) nothing)
    → AfterRoom pool n old (λ roomy. MakesBytes put pool n roomy new) → HoldsAll old new
made_holds put pool n old new keeps made =
    let mid = layout_of made.roomy in
    let xs = made.then.slices in
    values_then (layout_of old) mid (layout_of new) nothing (roomy_holds pool _ old made.roomy made.room)
    (subst (λ (s : State). KeepsValues mid s nothing) (sym (made.then.each numbers)) (keeps mid (read numbers xs)))

evicted_holds : (pool n : ℕ) (old new : KernelState) (x : Refusal) → MayHaveEvicted pool n old new x → HoldsAll old new
evicted_holds pool n old new x (inl same) = tables_hold old new (ap (λ (h : KernelState). h.domains) same)
evicted_holds pool n old new x (inr late) = roomy_holds pool _ old new late.room

pub placed_held : {A : Type 0} (m : State → Meaning A) (put : State → Text → State) (pool n : ℕ) (old new : KernelState)
    (r : Result A Refusal) (e : Event)
    → ((s : State) (t : Text) → KeepsValues s (put s t) nothing) → Places m put pool n old r new → Held old new e
placed_held m put pool n old new (Ok x) e keeps c = all_held old new e (made_holds put pool n old new keeps c.made)
placed_held m put pool n old new (Err x) e keeps c = all_held old new e (evicted_holds pool n old new x c.refused)

-- Files.

pub given_held : (x : FileRead) (disk : Disk) (old new : KernelState) (r : Result ℕ Refusal) (e : Event)
    → OnOk r (GivesRead x disk old new) → OnErr r (new.domains ≡ old.domains) → Held old new e
given_held x disk old new (Ok n) e gives refused =
    let moved : List (Option Descriptor) =
    slice_set (fds_in old.domains x.domain) x.fd (Some (on.File x.file (x.at + byte_len gives.slices) x.mode)) in
    let mid : KernelState = record old { domains = with_fds_in old.domains x.domain moved } in
    all_held old new e
    (values_then (layout_of old) (layout_of mid) (layout_of new) nothing (fds_hold old mid x.domain moved refl)
    (agg_holds mid new x.domain gives.slices gives.domains))
given_held x disk old new (Err y) e gives refused = all_held old new e (tables_hold old new refused)

pub copied_held : (x : FileRead) (disk : Disk) (old new : KernelState) (mid : Stored) (r : Result (List ℕ) Refusal)
    (e : Event) → IfOk r (GivesCopy x disk old mid new) → OnErr r (new.domains ≡ old.domains) → Held old new e
copied_held x disk old new mid (Ok bytes) e gives refused =
    all_held old new e
    (fds_hold old new x.domain
    (slice_set (fds_in old.domains x.domain) x.fd (Some (on.File x.file (x.at + byte_len gives.slices) x.mode)))
    gives.domains)
copied_held x disk old new mid (Err y) e gives refused = all_held old new e (tables_hold old new refused)

moved_holds : (f at n : ℕ) (old new : KernelState) → OnlyMoves f at n old.domains new.domains → HoldsAll old new
moved_holds f at n old new moves =
    fds_hold old new moves.domain
    (slice_set (fds_in old.domains moves.domain) moves.fd (Some (on.File f (at + n) moves.mode))) moves.is

pub moved_held : {A : Type 0} (f at n : ℕ) (old new : KernelState) (r : Result A Refusal) (e : Event)
    → OnOk r (OnlyMoves f at n old.domains new.domains) → OnErr r (new.domains ≡ old.domains) → Held old new e
moved_held f at n old new (Ok x) e moves refused = all_held old new e (moved_holds f at n old new moves)
moved_held f at n old new (Err x) e moves refused = all_held old new e (tables_hold old new refused)

laid_holds : (f at pool : ℕ) (bytes : List ℕ) (old new : KernelState)
    → AfterRoom pool (length bytes) old (λ roomy. LaysOver f at pool bytes roomy new) → HoldsAll old new
laid_holds f at pool bytes old new lays =
    values_then (layout_of old) (layout_of lays.roomy) (layout_of new) nothing
    (roomy_holds pool _ old lays.roomy lays.room) (moved_holds f at (length bytes) lays.roomy new lays.then.moves)

unlaid_then : (pool : ℕ) (bytes : List ℕ) (roomy new : KernelState) → (new ≡ roomy) ⊎ GivesUpNew pool bytes roomy new
    → HoldsAll roomy new
unlaid_then pool bytes roomy new (inl same) = tables_hold roomy new (ap (λ (h : KernelState). h.domains) same)
unlaid_then pool bytes roomy new (inr up) = tables_hold roomy new (ap (λ (h : KernelState). h.domains) up.rest)

unlaid_holds : (pool : ℕ) (bytes : List ℕ) (old new : KernelState) (x : Refusal) → LeavesUnlaid pool bytes old new x
    → HoldsAll old new
unlaid_holds pool bytes old new x (inl same) = tables_hold old new (ap (λ (h : KernelState). h.domains) same)
unlaid_holds pool bytes old new x (inr late) =
    let left = late.left in
    values_then (layout_of old) (layout_of left.roomy) (layout_of new) nothing
    (roomy_holds pool _ old left.roomy left.room) (unlaid_then pool bytes left.roomy new left.then)

pub laid_held : {A : Type 0} (f at pool : ℕ) (bytes : List ℕ) (old new : KernelState) (r : Result A Refusal) (e : Event)
    → LaysInFile f at pool bytes old r new → Held old new e
laid_held f at pool bytes old new (Ok x) e lays = all_held old new e (laid_holds f at pool bytes old new lays.lays)
laid_held f at pool bytes old new (Err x) e lays = all_held old new e (unlaid_holds pool bytes old new x lays.leaves)

-- The machine's reads and writes keep the values of aggregates.

pub values_read_on : (s : State) (by fd : ℕ) (from : Option Descriptor) (count : ℕ)
    → KeepsValues s (read_on s by fd from count) nothing
values_read_on s by fd None count = λ d a x is kept. is
values_read_on s by fd (Some (on.File f at mode)) count =
    values_fds s by (slice_set (domain s by).fds fd (Some (on.File f (at + count) mode)))
values_read_on s by fd (Some (on.ReadEnd p)) count =
    values_pipe s p (record (pipe_at s p) { queue = drop count (pipe_at s p).queue })
values_read_on s by fd (Some (on.WriteEnd p)) count = λ d a x is kept. is
values_read_on s by fd (Some (on.Connection c)) count =
    values_conn s c (record (conn_at s c) { incoming = drop count (conn_at s c).incoming })

pub values_written : (s : State) (by fd : ℕ) (to : Option Descriptor) (w : Text)
    → KeepsValues s (written s by fd to w) nothing
values_written s by fd None w = λ d a x is kept. is
values_written s by fd (Some (on.File f at mode)) w =
    let bytes : List ℕ = take at (content s f) ++ bytes_of w ++ drop (at + length w) (content s f) in
    let filled : State = with_content s f bytes in
    let moved : List (Option Descriptor) =
    slice_set (domain filled by).fds fd (Some (on.File f (at + length w) mode)) in
    values_then s filled (with_fds filled by moved) nothing (values_content s f bytes) (values_fds filled by moved)
values_written s by fd (Some (on.ReadEnd p)) w = λ d a x is kept. is
values_written s by fd (Some (on.WriteEnd p)) w =
    values_pipe s p (record (pipe_at s p) { queue = (pipe_at s p).queue ++ w })
values_written s by fd (Some (on.Connection c)) w =
    values_conn s c (record (conn_at s c) { outgoing = (conn_at s c).outgoing ++ w })

pub values_read : (by fd n : ℕ) (s : State) → KeepsValues s (reading.read s by fd n).after nothing
values_read by fd n s =
    values_read_on s by fd (descriptor s by fd) (length (reading.read_text s by (descriptor s by fd) n))

pub values_seek : (by fd at : ℕ) (s : State) → KeepsValues s (files.seek s by fd at).after nothing
values_seek by fd at s =
    values_fds s by
    (slice_set (domain s by).fds fd (option_map (λ x. on.File x.0 at x.2) (files.open_on (descriptor s by fd))))

pub values_incoming : (c : ℕ) (s : State) (t : Text) → KeepsValues s (with_incoming c s t) nothing
values_incoming c s t = values_conn s c (record (conn_at s c) { incoming = (conn_at s c).incoming ++ t })

pub values_sent : (c max : ℕ) (s : State) → KeepsValues s (outside.transmit s c max).after nothing
values_sent c max s = values_conn s c (record (conn_at s c) { outgoing = drop max (conn_at s c).outgoing })
