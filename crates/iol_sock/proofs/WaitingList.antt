-- The list of waiting connections, and the table from which it is read.
use Rattle.std.proofs.Common.{◌≡◌, ◌≢◌, ℕ, suc, ◌+◌, ◌<◌, ◌≤◌, ◌&&◌, not, List, [], ◌∷◌, ◌++◌, length, find, Bool, true}
use Rattle.std.proofs.Common.{false, Option, Some, None, option_map, inl, inr, arith, refl, sym, ap, ◌∙◌}
use Rattle.std.specs.Prelude.{unwrap_or}
use Rattle.std.specs.List.{remove}
use Rattle.std.proofs.lemmas.Bool.{cases_eq, cases_Bool}
use Rattle.std.proofs.lemmas.Bool.Decides.{nat_tests}
use Rattle.std.proofs.lemmas.Grind.{common_steps}
use Rattle.iol_core.specs.NumberedLists.{lookup, without, changed}
use Rattle.iol_hold.specs.declared.slices.Slice.{Slice}
use Rattle.iol_desc.specs.Tables.{place_in}
use Rattle.iol_desc.specs.EntryLists.{Rises, IsRising}
use Rattle.iol_desc.proofs.RisingNumbers.{rises-lower}
use Rattle.iol_pool.specs.Pools.{Pool, names_in}
use Rattle.iol_sock.specs.Connections.{Conn, new_conn}
use Rattle.iol_sock.specs.Table.{conn_in, no_conn, waiting_in}

-- connections under numbers
abbrev pub Conns : Type 0
Conns = List (ℕ × Conn (List Slice))

listed : (e : ℕ × Conn (List Slice)) (es : Conns) → e.1.accepted ≡ false
    → waiting_in (e ∷ es) ≡ (e.0, e.1.pool) ∷ waiting_in es
listed e es waits = rw waits refl

passed : (e : ℕ × Conn (List Slice)) (es : Conns) → e.1.accepted ≡ true → waiting_in (e ∷ es) ≡ waiting_in es
passed e es accepted = rw accepted refl

pub rises-waiting : (es : Conns) (from to : ℕ) → Rises from es to → Rises from (waiting_in es) to
rises-waiting [] from to r = r
rises-waiting (e ∷ es) from to r = elim (cases_Bool e.1.accepted) [
  | inl accepted ↦
      rw (passed e es accepted) (rises-lower (waiting_in es) (e.0 + 1) from to (rises-waiting es (e.0 + 1) to r.1)
      (omega (arith, r.0)))
  | inr waits ↦ rw (listed e es waits) (r.0, rises-waiting es (e.0 + 1) to r.1)
]

-- An entry is removed from the list.

pub remove-place : {X : Type 0} (xs : List (ℕ × X)) (n : ℕ) → lookup xs n ≢ None
    → (place_in xs n < length xs) × (remove xs (place_in xs n) ≡ without xs n)
remove-place [] n there = absurd (there refl)
remove-place {X} (x ∷ xs) n there = elim (cases_eq x.0 n) [
  | inl k ↦ grind (arith, nat_tests, common_steps, k)
  | inr k ↦ (let rest = remove-place xs n (λ none. there (grind (arith, nat_tests, k, none))) in
      let p : place_in (x ∷ xs) n ≡ suc (place_in xs n) = grind (arith, nat_tests, k) in
      let w : without (x ∷ xs) n ≡ x ∷ without xs n = grind (arith, nat_tests, k) in
      rw (p, w) (omega (arith, rest.0), ap (λ (xs : List (ℕ × X)). x ∷ xs) rest.1))
]

-- The table changes.

pub waiting-push : (es : Conns) (n p : ℕ) → waiting_in (es ++ (n, new_conn p) ∷ []) ≡ waiting_in es ++ (n, p) ∷ []
waiting-push [] n p = refl
waiting-push (e ∷ es) n p = elim (cases_Bool e.1.accepted) [
  | inl accepted ↦ passed e (es ++ (n, new_conn p) ∷ []) accepted ∙ waiting-push es n p
      ∙ ap (λ (ws : List (ℕ × ℕ)). ws ++ (n, p) ∷ []) (sym (passed e es accepted))
  | inr waits ↦ listed e (es ++ (n, new_conn p) ∷ []) waits
      ∙ ap (λ (ws : List (ℕ × ℕ)). (e.0, e.1.pool) ∷ ws) (waiting-push es n p)
      ∙ ap (λ (ws : List (ℕ × ℕ)). ws ++ (n, p) ∷ []) (sym (listed e es waits))
]

lookup-first : {X : Type 0} (e : ℕ × X) (es : List (ℕ × X)) (n : ℕ) → e.0 ≡ n → lookup (e ∷ es) n ≡ Some e.1
lookup-first e es n k = grind (arith, nat_tests, k)

lookup-later : {X : Type 0} (e : ℕ × X) (es : List (ℕ × X)) (n : ℕ) → e.0 ≢ n → lookup (e ∷ es) n ≡ lookup es n
lookup-later e es n k = grind (arith, nat_tests, k)

without-first : {X : Type 0} (e : ℕ × X) (es : List (ℕ × X)) (n : ℕ) → e.0 ≡ n → without (e ∷ es) n ≡ es
without-first e es n k = grind (arith, nat_tests, k)

without-later : {X : Type 0} (e : ℕ × X) (es : List (ℕ × X)) (n : ℕ) → e.0 ≢ n → without (e ∷ es) n ≡ e ∷ without es n
without-later e es n k = grind (arith, nat_tests, k)

changed-first : {X : Type 0} (e : ℕ × X) (es : List (ℕ × X)) (n : ℕ) (y : X) → e.0 ≡ n
    → changed (e ∷ es) n y ≡ (n, y) ∷ changed es n y
changed-first e es n y k = grind (arith, nat_tests, k)

changed-later : {X : Type 0} (e : ℕ × X) (es : List (ℕ × X)) (n : ℕ) (y : X) → e.0 ≢ n
    → changed (e ∷ es) n y ≡ e ∷ changed es n y
changed-later e es n y k = grind (arith, nat_tests, k)

changed-absent : {X : Type 0} (es : List (ℕ × X)) (from to n : ℕ) (y : X) → Rises from es to → n < from
    → changed es n y ≡ es
changed-absent [] from to n y r lt = refl
changed-absent {X} (e ∷ es) from to n y r lt =
    let above : n < e.0 = omega (arith, r.0) in
    changed-later e es n y (λ same. omega (arith, above, same))
    ∙ ap (λ (es : List (ℕ × X)). e ∷ es) (changed-absent es (e.0 + 1) to n y r.1 (omega (arith, r.0)))

pub lookup-changed : {X : Type 0} (es : List (ℕ × X)) (n : ℕ) (y : X) → lookup es n ≢ None
    → lookup (changed es n y) n ≡ Some y
lookup-changed [] n y there = absurd (there refl)
lookup-changed {X} (e ∷ es) n y there = elim (cases_eq e.0 n) [
  | inl k ↦ ap (λ (es : List (ℕ × X)). lookup es n) (changed-first e es n y k)
      ∙ lookup-first (n, y) (changed es n y) n refl
  | inr k ↦ ap (λ (es : List (ℕ × X)). lookup es n) (changed-later e es n y k) ∙ lookup-later e (changed es n y) n k
      ∙ lookup-changed es n y (λ none. there (lookup-later e es n k ∙ none))
]

some-same : {X : Type 0} (o : Option X) (x y : X) → o ≡ Some x → o ≡ Some y → x ≡ y
some-same o x y a b = cc (a, b)

pub some-none : {X : Type 0} (x : X) → Some x ≡ None → ⊥
some-none x bad = cc bad

-- if the first connection has that number, it is the one found
head-is : (e : ℕ × Conn (List Slice)) (es : Conns) (n : ℕ) (x : Conn (List Slice)) → e.0 ≡ n
    → lookup (e ∷ es) n ≡ Some x → e.1 ≡ x
head-is e es n x k found = some-same (lookup (e ∷ es) n) e.1 x (lookup-first e es n k) found

changed-head : (e : ℕ × Conn (List Slice)) (es : Conns) (to n : ℕ) (y : Conn (List Slice)) → e.0 ≡ n
    → Rises (e.0 + 1) es to → changed (e ∷ es) n y ≡ (n, y) ∷ es
changed-head e es to n y k r = changed-first e es n y k
    ∙ ap (λ (es : Conns). (n, y) ∷ es) (changed-absent es (e.0 + 1) to n y r (omega (arith, k)))

-- a connection stays accepted, or not accepted, and stays in its pool
pub waiting-kept : (es : Conns) (from to n : ℕ) (x y : Conn (List Slice)) → Rises from es to → lookup es n ≡ Some x
    → y.accepted ≡ x.accepted → y.pool ≡ x.pool → waiting_in (changed es n y) ≡ waiting_in es
waiting-kept [] from to n x y r found flag pool = refl
waiting-kept (e ∷ es) from to n x y r found flag pool = elim (cases_eq e.0 n) [
  | inl k ↦ (let is : e.1 ≡ x = head-is e es n x k found in
      let flags : y.accepted ≡ e.1.accepted = flag ∙ ap (λ (c : Conn (List Slice)). c.accepted) (sym is) in
      let pools : y.pool ≡ e.1.pool = pool ∙ ap (λ (c : Conn (List Slice)). c.pool) (sym is) in
      ap (λ (es : Conns). waiting_in es) (changed-head e es to n y k r.1) ∙ elim (cases_Bool e.1.accepted) [
        | inl accepted ↦ passed (n, y) es (flags ∙ accepted) ∙ sym (passed e es accepted)
        | inr waits ↦ listed (n, y) es (flags ∙ waits) ∙ ap (λ (p : ℕ). (n, p) ∷ waiting_in es) pools
            ∙ ap (λ (m : ℕ). (m, e.1.pool) ∷ waiting_in es) (sym k) ∙ sym (listed e es waits)
      ])
  | inr k ↦ (let rest = waiting-kept es (e.0 + 1) to n x y r.1 (sym (lookup-later e es n k) ∙ found) flag pool in
      ap (λ (es : Conns). waiting_in es) (changed-later e es n y k) ∙ elim (cases_Bool e.1.accepted) [
        | inl accepted ↦ passed e (changed es n y) accepted ∙ rest ∙ sym (passed e es accepted)
        | inr waits ↦ listed e (changed es n y) waits ∙ ap (λ (ws : List (ℕ × ℕ)). (e.0, e.1.pool) ∷ ws) rest
            ∙ sym (listed e es waits)
      ])
]

-- a waiting connection is accepted
pub waiting-accepted : (es : Conns) (from to n : ℕ) (x y : Conn (List Slice)) → Rises from es to → lookup es n ≡ Some x
    → x.accepted ≡ false → y.accepted ≡ true → waiting_in (changed es n y) ≡ without (waiting_in es) n
waiting-accepted [] from to n x y r found waited accepted = refl
waiting-accepted (e ∷ es) from to n x y r found waited accepted = elim (cases_eq e.0 n) [
  | inl k ↦ (let is : e.1 ≡ x = head-is e es n x k found in
      let waits : e.1.accepted ≡ false = ap (λ (c : Conn (List Slice)). c.accepted) is ∙ waited in
      ap (λ (es : Conns). waiting_in es) (changed-head e es to n y k r.1) ∙ passed (n, y) es accepted
      ∙ sym (without-first (e.0, e.1.pool) (waiting_in es) n k)
      ∙ ap (λ (ws : List (ℕ × ℕ)). without ws n) (sym (listed e es waits)))
  | inr k ↦
      (let rest = waiting-accepted es (e.0 + 1) to n x y r.1 (sym (lookup-later e es n k) ∙ found) waited accepted in
      ap (λ (es : Conns). waiting_in es) (changed-later e es n y k) ∙ elim (cases_Bool e.1.accepted) [
        | inl already ↦ passed e (changed es n y) already ∙ rest
            ∙ ap (λ (ws : List (ℕ × ℕ)). without ws n) (sym (passed e es already))
        | inr waits ↦ listed e (changed es n y) waits ∙ ap (λ (ws : List (ℕ × ℕ)). (e.0, e.1.pool) ∷ ws) rest
            ∙ sym (without-later (e.0, e.1.pool) (waiting_in es) n k)
            ∙ ap (λ (ws : List (ℕ × ℕ)). without ws n) (sym (listed e es waits))
      ])
]

-- a waiting connection is removed
pub waiting-without : (es : Conns) (n : ℕ) (x : Conn (List Slice)) → lookup es n ≡ Some x → x.accepted ≡ false
    → waiting_in (without es n) ≡ without (waiting_in es) n
waiting-without [] n x found waited = refl
waiting-without (e ∷ es) n x found waited = elim (cases_eq e.0 n) [
  | inl k ↦ (let is : e.1 ≡ x = head-is e es n x k found in
      let waits : e.1.accepted ≡ false = ap (λ (c : Conn (List Slice)). c.accepted) is ∙ waited in
      ap (λ (es : Conns). waiting_in es) (without-first e es n k)
      ∙ sym (without-first (e.0, e.1.pool) (waiting_in es) n k)
      ∙ ap (λ (ws : List (ℕ × ℕ)). without ws n) (sym (listed e es waits)))
  | inr k ↦ (let rest = waiting-without es n x (sym (lookup-later e es n k) ∙ found) waited in
      ap (λ (es : Conns). waiting_in es) (without-later e es n k) ∙ elim (cases_Bool e.1.accepted) [
        | inl already ↦ passed e (without es n) already ∙ rest
            ∙ ap (λ (ws : List (ℕ × ℕ)). without ws n) (sym (passed e es already))
        | inr waits ↦ listed e (without es n) waits ∙ ap (λ (ws : List (ℕ × ℕ)). (e.0, e.1.pool) ∷ ws) rest
            ∙ sym (without-later (e.0, e.1.pool) (waiting_in es) n k)
            ∙ ap (λ (ws : List (ℕ × ℕ)). without ws n) (sym (listed e es waits))
      ])
]

-- an accepted connection is removed
pub waiting-gone : (es : Conns) (n : ℕ) (x : Conn (List Slice)) → lookup es n ≡ Some x → x.accepted ≡ true
    → waiting_in (without es n) ≡ waiting_in es
waiting-gone [] n x found accepted = refl
waiting-gone (e ∷ es) n x found accepted = elim (cases_eq e.0 n) [
  | inl k ↦ (let is : e.1 ≡ x = head-is e es n x k found in
      ap (λ (es : Conns). waiting_in es) (without-first e es n k)
      ∙ sym (passed e es (ap (λ (c : Conn (List Slice)). c.accepted) is ∙ accepted)))
  | inr k ↦ (let rest = waiting-gone es n x (sym (lookup-later e es n k) ∙ found) accepted in
      ap (λ (es : Conns). waiting_in es) (without-later e es n k) ∙ elim (cases_Bool e.1.accepted) [
        | inl already ↦ passed e (without es n) already ∙ rest ∙ sym (passed e es already)
        | inr waits ↦ listed e (without es n) waits ∙ ap (λ (ws : List (ℕ × ℕ)). (e.0, e.1.pool) ∷ ws) rest
            ∙ sym (listed e es waits)
      ])
]

pub waiting-there : (es : Conns) (n : ℕ) (x : Conn (List Slice)) → lookup es n ≡ Some x → x.accepted ≡ false
    → lookup (waiting_in es) n ≡ Some x.pool
waiting-there [] n x found waited = absurd (let bad : None ≡ Some x = found in cc bad)
waiting-there (e ∷ es) n x found waited = elim (cases_eq e.0 n) [
  | inl k ↦ (let is : e.1 ≡ x = head-is e es n x k found in
      ap (λ (ws : List (ℕ × ℕ)). lookup ws n) (listed e es (ap (λ (c : Conn (List Slice)). c.accepted) is ∙ waited))
      ∙ lookup-first (e.0, e.1.pool) (waiting_in es) n k ∙ ap (λ (c : Conn (List Slice)). Some c.pool) is)
  | inr k ↦ (let rest = waiting-there es n x (sym (lookup-later e es n k) ∙ found) waited in
      elim (cases_Bool e.1.accepted) [
        | inl already ↦ ap (λ (ws : List (ℕ × ℕ)). lookup ws n) (passed e es already) ∙ rest
        | inr waits ↦ ap (λ (ws : List (ℕ × ℕ)). lookup ws n) (listed e es waits)
            ∙ lookup-later (e.0, e.1.pool) (waiting_in es) n k ∙ rest
      ])
]

-- The first waiting connection whose pool passes a test.

pub first-waiting : (test : ℕ → Bool) (es : Conns) → option_map (λ w. w.0) (find (λ w. test w.1) (waiting_in es))
    ≡ option_map (λ e. e.0) (find (λ e. not e.1.accepted && test e.1.pool) es)
first-waiting test [] = refl
first-waiting test (e ∷ es) = elim (cases_Bool e.1.accepted) [
  | inl accepted ↦ rw accepted (first-waiting test es)
  | inr waits ↦ elim (cases_Bool (test e.1.pool)) [
    | inl named ↦ rw (waits, named) refl
    | inr other ↦ rw (waits, other) (first-waiting test es)
  ]
]

pub first_as : (ps qs : List Pool) (d : ℕ) (es : Conns) (ws vs : List (ℕ × ℕ)) (o : Option ℕ) → ws ≡ waiting_in es
    → vs ≡ ws → qs ≡ ps → o ≡ option_map (λ w. w.0) (find (λ w. names_in qs w.1 d) vs)
    → o ≡ option_map (λ e. e.0) (find (λ e. not e.1.accepted && names_in ps e.1.pool d) es)
first_as ps qs d es ws vs o is lent same found =
    found
    ∙ ap (λ (ps : List Pool). option_map (λ w. w.0) (find (λ w. names_in ps w.1 d) vs)) same
    ∙ ap (λ (ws : List (ℕ × ℕ)). option_map (λ w. w.0) (find (λ w. names_in ps w.1 d) ws)) (lent ∙ is)
    ∙ first-waiting (λ p. names_in ps p d) es

rises-above : {X : Type 0} (ws : List (ℕ × X)) (from to : ℕ) → Rises from ws to → from ≤ to
rises-above [] from to r = r
rises-above (w ∷ ws) from to r = omega (arith, r.0, rises-above ws (w.0 + 1) to r.1)

pub found-below : (test : ℕ → Bool) (ws : List (ℕ × ℕ)) (from to n : ℕ) → Rises from ws to
    → option_map (λ w. w.0) (find (λ w. test w.1) ws) ≡ Some n → n < to
found-below test [] from to n r found = absurd (let bad : None ≡ Some n = found in cc bad)
found-below test (w ∷ ws) from to n r found = elim (cases_Bool (test w.1)) [
  | inl named ↦ (let first : option_map (λ w. w.0) (find (λ w. test w.1) (w ∷ ws)) ≡ Some w.0 = rw named refl in
      let is : w.0 ≡ n = some-same (option_map (λ w. w.0) (find (λ w. test w.1) (w ∷ ws))) w.0 n first found in
      omega (arith, is, rises-above ws (w.0 + 1) to r.1))
  | inr other ↦
      (let later : option_map (λ w. w.0) (find (λ w. test w.1) (w ∷ ws))
      ≡ option_map (λ w. w.0) (find (λ w. test w.1) ws) = rw other refl in
      found-below test ws (w.0 + 1) to n r.1 (sym later ∙ found))
]

pub first-below : (test : ℕ → Bool) (es : Conns) (ws vs : List (ℕ × ℕ)) (to n : ℕ) (o : Option ℕ) → ws ≡ waiting_in es
    → vs ≡ ws → Rises 0 es to → o ≡ option_map (λ w. w.0) (find (λ w. test w.1) vs) → o ≡ Some n → n < to
first-below test es ws vs to n o is lent r found some =
    found-below test vs 0 to n (rw (lent, is) (rises-waiting es 0 to r)) (sym found ∙ some)

-- The list of the table after a call on connection n.

pub conn_in-there : (es : Conns) (n : ℕ) (x : Conn (List Slice)) → lookup es n ≡ Some x → conn_in es n ≡ x
unfolding conn_in
conn_in-there es n x found = ap (λ (o : Option (Conn (List Slice))). unwrap_or o no_conn) found

pub there-conn_in : (es : Conns) (n : ℕ) → lookup es n ≢ None → lookup es n ≡ Some (conn_in es n)
unfolding conn_in
there-conn_in es n there = some-in (lookup es n) there
  where
    some-in : (o : Option (Conn (List Slice))) → o ≢ None → o ≡ Some (unwrap_or o no_conn)
    some-in None there = absurd (there refl)
    some-in (Some x) there = refl

pub waiting-rising : (es : Conns) (ws : List (ℕ × ℕ)) (to : ℕ) → ws ≡ waiting_in es → Rises 0 es to → IsRising ws
waiting-rising es ws to is r = record { reported = (to, rw is (rises-waiting es 0 to r)) }

pub accepts : (es : Conns) (ws : List (ℕ × ℕ)) (to n m : ℕ) → ws ≡ waiting_in es → Rises 0 es to → m ≡ n
    → lookup es n ≢ None → (conn_in es n).accepted ≡ false
    → (lookup ws m ≢ None) × ((y : Conn (List Slice)) → y.accepted ≡ true → without ws m ≡ waiting_in (changed es m y))
accepts es ws to n m is r same there waits =
    let found = there-conn_in es n there in
    let listed : lookup ws m ≡ Some (conn_in es n).pool =
    rw (is, same) (waiting-there es n (conn_in es n) found waits) in (
      λ none. some-none (conn_in es n).pool (sym listed ∙ none),
      λ y accepted. rw (is, same) (sym (waiting-accepted es 0 to n (conn_in es n) y r found waits accepted)),
    )

pub accepted-there : (es : Conns) (n m : ℕ) (x y : Conn (List Slice)) → m ≡ n → lookup es m ≡ Some x
    → y ≡ record x { accepted = true } → changed es m y ≡ changed es n (record (conn_in es n) { accepted = true })
accepted-there es n m x y same found is =
    let at : conn_in es m ≡ x = conn_in-there es m x found in
    rw (is, sym at, same) refl

pub forgets : (es : Conns) (ws : List (ℕ × ℕ)) (n : ℕ) (x : Conn (List Slice)) → ws ≡ waiting_in es
    → lookup es n ≡ Some x → x.accepted ≡ false → (lookup ws n ≢ None) × (without ws n ≡ waiting_in (without es n))
forgets es ws n x is found waits =
    let listed : lookup ws n ≡ Some x.pool = rw is (waiting-there es n x found waits) in (
      λ none. some-none x.pool (sym listed ∙ none),
      rw is (sym (waiting-without es n x found waits)),
    )

-- the list is unchanged if a connection stays accepted, or not accepted, and stays in its pool
pub index_kept : (es : Conns) (ws : List (ℕ × ℕ)) (to n : ℕ) (x y : Conn (List Slice)) → ws ≡ waiting_in es
    → Rises 0 es to → lookup es n ≡ Some x → y.accepted ≡ x.accepted → y.pool ≡ x.pool
    → ws ≡ waiting_in (changed es n y)
index_kept es ws to n x y is r found flag pool = is ∙ sym (waiting-kept es 0 to n x y r found flag pool)

-- setting a connection to its own value changes nothing
pub changed-same : (es : Conns) (from to n : ℕ) (x : Conn (List Slice)) → Rises from es to → lookup es n ≡ Some x
    → changed es n x ≡ es
changed-same [] from to n x r found = refl
changed-same (e ∷ es) from to n x r found = elim (cases_eq e.0 n) [
  | inl k ↦ changed-head e es to n x k r.1
      ∙ ap (λ (x : Conn (List Slice)). (n, x) ∷ es) (sym (head-is e es n x k found))
      ∙ ap (λ (m : ℕ). (m, e.1) ∷ es) (sym k)
  | inr k ↦ changed-later e es n x k
      ∙ ap (λ (es : Conns). e ∷ es) (changed-same es (e.0 + 1) to n x r.1 (sym (lookup-later e es n k) ∙ found))
]

pub ruleset list_rules = (remove-place)

pub ruleset table_rules = (waiting-push)

pub ruleset passing_rules = (index_kept, conn_in-there, lookup-changed)
