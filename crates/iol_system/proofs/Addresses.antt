-- Each byte of an aggregate keeps its place and its address over a run that does not give the aggregate up.
use Rattle.std.proofs.Common.{◌≡◌, ◌∙◌, ℕ, ◌+◌, ◌*◌, false, List, [], ◌∷◌, map, Option, Some, None, ap, sym, refl}
use Rattle.std.proofs.Common.{subst}
use Rattle.std.specs.Prelude.{option_map, unwrap_or}
use Rattle.std.specs.Borrow.{u8}
use Rattle.std.specs.List.{list_any}
use Rattle.std.specs.Ptr.{Ptr, ptr_add}
use Rattle.iol_core.specs.State.{aggregate}
use Rattle.iol_core.specs.Text.{Text}
use Rattle.iol_core.specs.Values.{gives_up}
use Rattle.iol_core.specs.declared.events.Event.{Event}
use Rattle.iol_core.specs.declared.events.Reply.{Reply}
use Rattle.iol_hold.specs.Places.{Place, places}
use Rattle.iol_hold.specs.declared.slices.Slice.{Slice}
use Rattle.iol_hold.proofs.PlaceNumbers.{layout_text-same}
use Rattle.iol_desc.specs.Tables.{agg_in}
use Rattle.iol_kernel.specs.KernelState.{KernelState, layout_of, objects_of, read_of, slices_in}
use Rattle.iol_kernel.specs.Readings.{Reading, bytes_over, read}
use Rattle.iol_kernel.proofs.State.Views.{aggregate-view}
use Rattle.iol_system.specs.Laws.{RunsKeepAddresses, RunsKeepPlaces}
use Rattle.iol_system.specs.Machine.{SystemState}
use Rattle.iol_system.specs.Promises.{Chain}
use Rattle.iol_system.proofs.Chains.{chain_stays, neither}
use Rattle.iol_system.proofs.HeldPlaces.{laid, numbers}

-- an aggregate that no event of a run gives up keeps the places of its bytes
place_kept : (old new : SystemState) (es : List Event) (rs : List Reply) (d a : ℕ) (t : Text)
    → aggregate (layout_of old.kernel) d a ≡ Some t → list_any (λ e. gives_up e d a) es ≡ false → Chain old es rs new
    → aggregate (layout_of new.kernel) d a ≡ Some t
place_kept old new [] [] d a t is kept chain =
    subst (λ (s : SystemState). aggregate (layout_of s.kernel) d a ≡ Some t) (sym chain) is
place_kept old new (e ∷ es) (r ∷ rs) d a t is kept chain =
    let both = neither (gives_up e d a) (list_any (λ x. gives_up x d a) es) kept in
    place_kept chain.0 new es rs d a t (chain.1.held.each d a t is both.0) both.1 chain.2
place_kept old new [] (r ∷ rs) d a t is kept chain = absurd chain
place_kept old new (e ∷ es) [] d a t is kept chain = absurd chain

pub chain_places : RunsKeepPlaces
chain_places old new es rs chain = record { each = λ d a t is kept. place_kept old new es rs d a t is kept chain }

-- slices that have a text in one reading have one in the reading by places
read_else : (f : Reading) (o : Option (List Slice)) (t : Text) → option_map (read f) o ≡ Some t
    → option_map (read numbers) o ≡ Some (read numbers (unwrap_or o []))
read_else f None t is = absurd (cc)
read_else f (Some xs) t is = refl

read_there : (o : Option (List Slice)) (t : Text) → option_map (read numbers) o ≡ Some t
    → read numbers (unwrap_or o []) ≡ t
read_there None t is = absurd (cc)
read_there (Some xs) t is = ap (λ (o : Option Text). unwrap_or o t) is

seen : (f : Reading) (h : KernelState) (d a : ℕ)
    → aggregate (read_of f h) d a ≡ option_map (read f) (agg_in h.domains d a)
unfolding read_of
seen f h d a = aggregate-view f h.domains h.store.pools (objects_of h) d a

pub chain_addresses : RunsKeepAddresses
chain_addresses old new es rs chain d a t is kept =
    let h = old.kernel in
    let k = new.kernel in
    let f = bytes_over old.disk.slots h.store in
    let xs = slices_in h.domains d a in
    let ys = slices_in k.domains d a in
    let before : aggregate (layout_of h) d a ≡ Some (read numbers xs) =
    laid h d a ∙ read_else f (agg_in h.domains d a) t (sym (seen f h d a) ∙ is) in
    let after : aggregate (layout_of k) d a ≡ Some (read numbers xs) =
    place_kept old new es rs d a (read numbers xs) before kept chain in
    let same : places ys ≡ places xs =
    layout_text-same ys xs (read_there (agg_in k.domains d a) (read numbers xs) (sym (laid k d a) ∙ after)) in
    let at : Ptr → List Place → List Ptr = λ b ps. map (λ (p : Place). ptr_add u8 (p.buf.page * 4096 + p.at) b) ps in
    ap (at k.store.arena.base) same ∙ ap (λ b. at b (places xs)) (chain_stays old new es rs chain).keeps.base
