-- `elements_at` makes a slice of an address and a length. A `&` to a `Vec` has what a `&` to each element has.
use Rattle.std.proofs.Common.{◌≡◌, ℕ, List, [], ◌∷◌, length, refl, sym, subst, ◌∙◌, ◌*◌, ◌^◌, ◌<◌}
use Rattle.std.proofs.raw_atomic.Walks.{proved}
use native.Mathlib.Nat.{mul-le-mul_right, lt_of_le_of_lt}
use mir.Syntax.{named, w64}
use mir.Val.{Val, vptr, vint}
use seplogic.Ra.Ura.{Ura}
use base.Logic.{SProp, id⊢, ent, sep, emp, via, comm∗, mono_l, mono_r, emp∗}
use base.Fml.{fhide}
use prog.Wp.{WpFn}
use types.Logic.{Logic}
use contract.Monad.{fact, fact_i}
use contract.Running.{tables}
use types.Kit.{Item, Step, step, at_ret, ‵, raw, ◌⊛◌, prop, ◌$◌, ◌∵◌, !, qed, done, move, drop, use1, split, fsplit}
use types.Kit.{fjoin, feq_i, flt_i, flt_l, regoal, suffices}
use types.Part.{agg}
use types.Run.{enter, first, blocks, exec, returns, of_opd, no_more, and_then}
use types.ByLocal.{alloc_all, pass_all, free_all, look_at, get, sets, sets_last, env}
use denote.Exit.{yes}
use denote.RattleType.{owns}
use denote.Builtin.{u8, usize, RawPtr, RefOf}
use denote.Memory.{mem, hidden_shr}
use denote.Opens.{unhide, hide}
use denote.Plain.{uint_vals, uint_Tells}
use denote.RawPtr.{Ptr, block_ptr, block_of, count_of, InBlock, at_block, ptr_val, rawptr_vals, rawptr_Tells}
use denote.Ref.{shr_vals, shr_Tells}
use denote.Signature.{Slot, types_at, plain}
use denote.Slice.{slice_val}
use denote.Steps.{heard, nothing}
use denote.Struct.Struct.{Struct}
use denote.Struct.Owning.{shape}
use denote.Struct.Lending.{in_block_says}
use denote.Triple.Entry.{alive}
use denote.Triple.Walked.{Stays, walk_of, stay_dropped, Goes-dropped, ends_at}
use Rattle.std.specs.contracts.alloc.Global as heap
use Rattle.std.specs.contracts.impls.GlobalAllocator.TheImpl as global
use Rattle.std.specs.contracts.vec.Vec as vec
use Rattle.iol_arena.specs.contracts.elements.elements_at as f
use Rattle.iol_arena.proofs.elements.elements_at.Statement.{statement}
use Rattle.iol_arena.proofs.elements.elements_at.Code as code

-- a goal with two facts next to P: the facts are shown, and P remains
both : {M : Type 1} {𝓤 : Ura M} {𝓛 : Logic 𝓤} {K : Type 0} {Γ : List (Item 𝓤)} → K → {φ ψ : Type 0} {P : SProp 𝓤}
    → φ × ψ
    → Step K 𝓛 Γ (prop P) Γ (prop (sep 𝓤 P (sep 𝓤 (fact 𝓤 φ) (fact 𝓤 ψ))))
both {𝓤 = 𝓤} t {φ} {ψ} {P} x =
    let F : SProp 𝓤 = sep 𝓤 (fact 𝓤 φ) (fact 𝓤 ψ) in
    let said : ent 𝓤 (emp 𝓤) F =
    via 𝓤 (sep 𝓤 (emp 𝓤) (emp 𝓤)) (emp∗ 𝓤 (emp 𝓤))
    (via 𝓤 (sep 𝓤 (fact 𝓤 φ) (emp 𝓤)) (mono_l 𝓤 (emp 𝓤) (fact_i 𝓤 φ (emp 𝓤) x.0))
    (mono_r 𝓤 (fact 𝓤 φ) {Q = emp 𝓤} {Q' = fact 𝓤 ψ} (fact_i 𝓤 ψ (emp 𝓤) x.1))) in
    step
    (λ s. record {
      prf =
          via 𝓤 P s.prf (via 𝓤 (sep 𝓤 (emp 𝓤) P) (emp∗ 𝓤 P) (via 𝓤 (sep 𝓤 F P) (mono_l 𝓤 P said) (comm∗ 𝓤 F P)));
    })

abbrev list_slot : Slot 1
list_slot = RefOf (0 ∷ []) tt (plain (λ κs. vec.the_row u8 heap.the_row global.ghosts)) (λ κs. tt)

abbrev at_slot : Slot 1
at_slot = plain (λ κs. RawPtr)

abbrev len_slot : Slot 1
len_slot = plain (λ κs. usize)

abbrev stayed : Stays f.ended.signature.params f.ended.kept
stayed = (stay_dropped list_slot yes, (stay_dropped at_slot yes, (stay_dropped len_slot yes, tt)))

pub elements_at_spec : {M : Type 1} → statement M
elements_at_spec 𝓤 𝓛 𝓜 𝓡 wired =
    let c = f.clauses 𝓛 𝓜.mem 𝓡.returns in let W = walk_of 𝓛 f.ended stayed c in let 𝓣 = tables 𝓤 𝓛.H 𝓜 𝓡 𝓡.env in
    proved 𝓛 f.ended stayed c 𝓜 𝓡 (
      Goes-dropped 𝓛 1 list_slot yes (λ κs x w. refl),
      (Goes-dropped 𝓛 1 at_slot yes (λ κs x w. refl), (Goes-dropped 𝓛 1 len_slot yes (λ κs x w. refl), tt)),
    )
    f.Key.name code.function (code.unfolded 𝓤 𝓛.H 𝓜 𝓡 wired)
    (λ κs. (shr_vals, (rawptr_vals, (uint_vals w64, tt))))
    (λ κs. (shr_Tells (named 0) κs.0 (vec.the_row u8 heap.the_row global.ghosts), (rawptr_Tells, (uint_Tells w64, tt))))
    (λ κs qs bounds a n are.
    let d = a.0.now in let b = a.0.ref_ptr.0 in let o = a.0.ref_ptr.1 in let len = a.1.1.0 in
    let y : Ptr → W.Ghost =
    λ p. ((κs, qs, bounds, (a.0, (p, (len, tt))), (shr_vals a.0, (rawptr_vals p, (uint_vals w64 len, tt)))), n) in
    let at : ℕ × ℕ = (block_of d.ptr, count_of d.ptr) in
    let p : Ptr = block_ptr at.0 at.1 in
    qed 𝓛 ((raw (alive 𝓛 f.signature κs qs) ⊛ ‵ (owns (types_at f.signature.params κs) a (y a.1.0).0.4))
    ∷ (raw (fact 𝓤 (a.1.0 ≡ d.ptr)) ⊛ raw (fact 𝓤 (len ≡ d.len))) ∷ []) ∵
    move ! (1 ∷ []) $ split ! $ heard ! (a.1.0 ≡ d.ptr) (λ there. heard ! (len ≡ d.len) (λ long.
    split ! $ move ! (1 ∷ []) $ fsplit ! $ move ! (1 ∷ []) $ drop ! $ fsplit ! $ drop ! $
    use1 𝓛
    (‵ (hidden_shr (Struct (shape (vec.the_type u8 heap.the_row global.ghosts))) κs.0
    (d.ptr, (d.len, (d.cap, (d.alloc, tt)))) b o) ⊛ ‵
    (fhide (vec.the_lent u8 heap.the_row global.ghosts d d.ptr κs.0))) (id⊢ 𝓤 _) $ split ! $ drop ! $
    unhide ! $ fsplit ! $ flt_l ! (λ fit. fsplit ! $ use1 𝓛 (raw (fact 𝓤 (InBlock d.ptr))) (in_block_says 𝓛 d.ptr)
    $ heard ! (InBlock d.ptr) (λ inb. fsplit ! $ drop ! $ hide ! $
    -- [a `&` to each element; the tokens]
    let is : d.ptr ≡ p = at_block d.ptr inb in
    let few : len * (mem u8).size < 2 ^ 63 =
    subst (λ (k : ℕ). k * (mem u8).size < 2 ^ 63) (sym long)
    (lt_of_le_of_lt (mul-le-mul_right (mem u8).size d.ok.1) fit) in
    let same : len ≡ length d.items = long ∙ d.ok.0 in
    regoal !
    (λ (q : Ptr). prop (WpFn 𝓤 𝓛.H 𝓣.C 𝓣.Λ code.function (vptr b o ∷ ptr_val q ∷ vint w64 len ∷ []) (W.post (y q))))
    (there ∙ is) refl $
    enter ! _ _ _ _ _
    $ alloc_all ! (λ l. pass_all ! refl ((tt, tt), ((tt, tt), ((tt, record { fits = are.1.1.0.1 }), tt))) $
    first ! $ blocks ! $
    sets_last ! (agg ! (and_then ! (get ! refl) (and_then ! (get ! refl) (no_more !)))) refl
    (tt, (tt, (record { fits = are.1.1.0.1 }, tt))) $
    exec ! 𝓣.C 𝓣.Λ (env code.Mir.locals l) code.Mir.t-2 (at_ret _ (W.post (y p))) $
    sets ! (of_opd ! (get ! refl)) refl (tt, (tt, (record { fits = are.1.1.0.1 }, tt))) $
    returns ! (look_at ! 0 refl) $ free_all ! refl $
    suffices ! _ (ends_at 𝓛 f.ended stayed c (y p) (slice_val at len) (record { ref_ptr = at; now = d.items })
    (tt, (tt, (tt, tt))) (tt, (tt, (tt, tt)))) $ both ! (refl, sym is) $
    flt_i ! (length d.items * (mem u8).size) (2 ^ 63) (subst (λ (k : ℕ). k * (mem u8).size < 2 ^ 63) same few)
    $ flt_i ! (length d.items) (2 ^ 64) (subst (λ (k : ℕ). k < 2 ^ 64) same are.1.1.0.1) $ fjoin ! $
    feq_i ! (List Val) (slice_val at len ∷ []) (slice_val at (length d.items) ∷ [])
    (subst (λ (k : ℕ). slice_val at len ∷ [] ≡ slice_val at k ∷ []) same refl) $ fjoin ! $ fjoin ! $
    nothing ! $ nothing ! $ fjoin ! $ nothing ! $ fjoin ! $ nothing ! $ fjoin ! $
    move ! (2 ∷ 0 ∷ 1 ∷ []) $ done !))))))
