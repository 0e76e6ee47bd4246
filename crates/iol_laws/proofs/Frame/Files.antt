-- The files and pools that each event leaves unchanged.
use Rattle.std.proofs.Common.{inl, inr, ◌≡◌, ◌≢◌, ℕ, ◌+◌, ◌==◌, List, [], ◌∷◌, ◌++◌, length, take, drop, ap, ◌∙◌, refl}
use Rattle.std.proofs.Common.{sym, subst, arith, Option, Some, None, true, false, Bool}
use Rattle.std.specs.Prelude.{if◌then◌else◌, option_map, position, bytes_eq}
use Rattle.std.specs.List.{list_any}
use Rattle.std.proofs.lemmas.List.{append-nil}
use Rattle.std.proofs.lemmas.Bool.{cases_eq}
use Rattle.std.proofs.lemmas.Bool.Decides.{nat_tests}
use Rattle.std.proofs.lemmas.Grind.{common_steps}
use Rattle.iol_core.specs.Text.{Text, bytes_of}
use Rattle.iol_core.specs.NumberedLists.{is_numbered, numbered_or, with_numbered}
use Rattle.iol_core.specs.State.{State, Pool, File, pool, is_pool, no_pool, file, no_file, content, descriptor}
use Rattle.iol_core.specs.State.{with_domain, with_pipe, with_conn, with_content}
use Rattle.iol_core.specs.Run.{called, meaning}
use Rattle.iol_core.specs.Calls.Pools.{admitting, with_name}
use Rattle.iol_core.specs.Calls.Files.{file_called}
use Rattle.iol_core.specs.Calls.Writes as writing
use Rattle.iol_core.specs.declared.descriptors.Descriptor.{Descriptor}
use Rattle.iol_core.specs.declared.descriptors.Descriptor.TheVariants as on
use Rattle.iol_core.specs.declared.events.Call.{Call}
use Rattle.iol_core.specs.declared.events.Call.TheVariants as call
use Rattle.iol_core.specs.declared.events.Event.{Event}
use Rattle.iol_core.specs.declared.events.Event.TheVariants as event
use Rattle.iol_core.proofs.Lookups.{file-same, numbered_or-with}
use Rattle.iol_laws.proofs.Changes.{Act, Change, OnDomain, Fills, Shuts, Admits, NewPool, NewFile, Reads, Writes}
use Rattle.iol_laws.proofs.Changes.{changed, is_write, is_writing, kept_unwritten, none_handed, own, used_as}
use Rattle.iol_laws.specs.Frame.{Grows, admits_to, changes_files, closes_pool, is_on_file, writes_file}
use Rattle.iol_laws.proofs.Tests.{apart}

-- files, their bytes and the pools are unchanged
pub record SameStore (s t : State) : Type 0 where
  pub files : t.files ≡ s.files
  pub slots : t.slots ≡ s.slots
  pub pools : t.pools ≡ s.pools

pub files_written : (s : State) (by fd : ℕ) (to : Option Descriptor) (w : Text) → writing.is_file to ≡ false
    → ((writing.written s by fd to w).files ≡ s.files) × ((writing.written s by fd to w).slots ≡ s.slots)
unfolding with_pipe with_conn
files_written s by fd (Some (on.File f at mode)) w un = absurd (cc)
files_written s by fd o w un = (refl, refl)

-- the files, the pools and the bytes of other files than the one written are unchanged
record Wrote (s : State) (to : Option Descriptor) (t : State) : Type 0 where
  files : t.files ≡ s.files
  pools : t.pools ≡ s.pools
  contents : (f : ℕ) → is_on_file f to ≡ false → content t f ≡ content s f

pub content-same : (s t : State) (f : ℕ) → t.slots ≡ s.slots → content t f ≡ content s f
unfolding content
content-same s t f same = ap (λ (ss : List (List ℕ)). numbered_or ss f []) same

content-other : (s : State) (g : ℕ) (bytes : List ℕ) (f : ℕ) → g ≢ f → content (with_content s g bytes) f ≡ content s f
unfolding content with_content
content-other s g bytes f differ =
    elim (numbered_or-with s.slots g f bytes []) [ inl both ↦ absurd (differ both.0) | inr same ↦ same ]

store_written : (s : State) (by fd : ℕ) (to : Option Descriptor) (w : Text) → Wrote s to (writing.written s by fd to w)
unfolding with_domain with_pipe with_conn with_content
store_written s by fd (Some (on.File g at mode)) w = record {
  files = refl;
  pools = refl;
  contents = λ f un.
      let filled : State =
      with_content s g (take at (content s g) ++ bytes_of w ++ drop (at + length w) (content s g)) in
      content-same filled (writing.written s by fd (Some (on.File g at mode)) w) f refl
      ∙ content-other s g (take at (content s g) ++ bytes_of w ++ drop (at + length w) (content s g)) f
      (apart g f un);
}
store_written s by fd (Some (on.WriteEnd q)) w =
    record {
      files = refl;
      pools = refl;
      contents =
          λ f un. content-same s (writing.written s by fd (Some (on.WriteEnd q)) w) f refl;
    }
store_written s by fd (Some (on.Connection e)) w =
    record {
      files = refl;
      pools = refl;
      contents =
          λ f un. content-same s (writing.written s by fd (Some (on.Connection e)) w) f refl;
    }
store_written s by fd o w = record { files = refl; pools = refl; contents = λ f un. refl }

-- whether a change is of a file or a pool, or creates one
abbrev of_store : Change → Bool
of_store (Fills f bytes) = true
of_store (Shuts p) = true
of_store (Admits p d) = true
of_store (NewPool x) = true
of_store (NewFile x) = true
of_store c = false

store_changed : (s t : State) (c : Change) → of_store c ≡ false → SameStore s t → SameStore s (changed t c)
unfolding with_domain with_pipe with_conn
store_changed s t (Fills f bytes) un same = absurd (cc)
store_changed s t (Shuts p) un same = absurd (cc)
store_changed s t (Admits p d) un same = absurd (cc)
store_changed s t (NewPool x) un same = absurd (cc)
store_changed s t (NewFile x) un same = absurd (cc)
store_changed s t (OnDomain d x) un same = record { files = same.files; slots = same.slots; pools = same.pools }
store_changed s t c un same = record { files = same.files; slots = same.slots; pools = same.pools }

store_unused : (s : State) (by fd : ℕ) (o : Option Descriptor) (act : Act) → is_write act ≡ false
    → list_any of_store (used_as s by fd o act) ≡ false
store_unused s by fd (Some (on.File f at mode)) (Reads n) un = refl
store_unused s by fd o (Writes w) un = absurd (cc)
store_unused s by fd o act un = refl

store_left : (s : State) (by : ℕ) (k : Call) → is_writing k ≡ false → list_any of_store (own s by k) ≡ false
    → SameStore s (called s by k).after
store_left s by k un first =
    kept_unwritten (SameStore s) of_store (store_changed s) store_unused s by k un first
    (record { files = refl; slots = refl; pools = refl })

-- whether an event creates or changes a pool
abbrev pub changes_pools : Event → Bool
changes_pools (event.Call by (call.PoolCreate chunks list)) = true
changes_pools (event.Call by (call.PoolClose p)) = true
changes_pools (event.Call by (call.PoolAdmit p d)) = true
changes_pools e = false

-- an existing pool exists in an equal table
there-same : (s t : State) (p : ℕ) → t.pools ≡ s.pools → is_pool s p ≡ true → is_pool t p ≡ true
there-same s t p same is = ap (λ (ps : List Pool). is_numbered ps p) same ∙ is

there-push : (xs : List Pool) (x : Pool) (p : ℕ) → is_numbered xs p ≡ true → is_numbered (xs ++ x ∷ []) p ≡ true
there-push xs x p is = grind (arith, nat_tests, common_steps, is)

there-with : (xs : List Pool) (q : ℕ) (x : Pool) (p : ℕ) → is_numbered xs p ≡ true
    → is_numbered (with_numbered xs q x) p ≡ true
there-with xs q x p is = elim (cases_eq q 0) [
  | inl k ↦ grind (arith, nat_tests, common_steps, k, is)
  | inr k ↦ grind (arith, nat_tests, common_steps, k, is)
]

-- the files and pools that an event leaves unchanged
pub record KeepsStore (s : State) (e : Event) (t : State) : Type 0 where
  pub files : changes_files s e ≡ false → (t.files ≡ s.files) × (t.slots ≡ s.slots)
  pub contents : (f : ℕ) → writes_file s e f ≡ false → content t f ≡ content s f
  pub known : (f : ℕ) → is_numbered s.files f ≡ true → file t f ≡ file s f
  pub called : (name : List ℕ) (f : ℕ) → file_called s name ≡ Some f → file_called t name ≡ Some f
  pub numbered : (p : ℕ) → is_pool s p ≡ true → is_pool t p ≡ true
  pub lists : (p : ℕ) → is_pool s p ≡ true → Grows (pool s p).domains (pool t p).domains
  pub pools : (p : ℕ) → is_pool s p ≡ true → closes_pool e p ≡ false → admits_to e p ≡ false → pool t p ≡ pool s p
  pub listed : (p : ℕ) → is_pool s p ≡ true → admits_to e p ≡ false → (pool t p).domains ≡ (pool s p).domains
  pub table : changes_pools e ≡ false → t.pools ≡ s.pools

pool-same : (s t : State) (p : ℕ) → t.pools ≡ s.pools → pool t p ≡ pool s p
unfolding pool
pool-same s t p same = ap (λ (ps : List Pool). numbered_or ps p no_pool) same

called-same : (s t : State) (name : List ℕ) (f : ℕ) → t.files ≡ s.files → file_called s name ≡ Some f
    → file_called t name ≡ Some f
called-same s t name f same is =
    ap (λ (fs : List File). option_map (λ i. i + 1) (position (λ x. bytes_eq x.name name) fs)) same ∙ is

grows_same : (xs ys : List ℕ) → ys ≡ xs → Grows xs ys
grows_same xs ys same = record { more = []; few = omega arith; is = same ∙ sym (append-nil xs) }

grows_named : (xs : List ℕ) (d : ℕ) → Grows xs (with_name xs d)
grows_named xs d = elim (list_any (λ e. e == d) xs) as (λ b. Grows xs (if b then xs else xs ++ d ∷ [])) [
  | true ↦ grows_same xs xs refl
  | false ↦ record { more = d ∷ []; few = omega arith; is = refl }
]

-- the lists of files and pools are unchanged
store_of : (s t : State) (e : Event) → t.files ≡ s.files → t.pools ≡ s.pools
    → (changes_files s e ≡ false → t.slots ≡ s.slots)
    → ((f : ℕ) → writes_file s e f ≡ false → content t f ≡ content s f) → KeepsStore s e t
store_of s t e files pools slots contents = record {
  files = λ un. (files, slots un);
  contents = contents;
  known = λ f is. file-same s t f files;
  called = λ name f is. called-same s t name f files is;
  numbered = λ p is. there-same s t p pools is;
  lists = λ p is. grows_same _ _ (ap (λ (x : Pool). x.domains) (pool-same s t p pools));
  pools = λ p is un none. pool-same s t p pools;
  listed = λ p is none. ap (λ (x : Pool). x.domains) (pool-same s t p pools);
  table = λ un. pools;
}

pub store_kept : (s t : State) (e : Event) → SameStore s t → KeepsStore s e t
store_kept s t e same = store_of s t e same.files same.pools (λ un. same.slots) (λ f un. content-same s t f same.slots)

-- a call that writes to the object of a descriptor
store_wrote : (s : State) (e : Event) (by fd : ℕ) (to : Option Descriptor) (w : Text)
    → changes_files s e ≡ writing.is_file to → ((f : ℕ) → writes_file s e f ≡ is_on_file f to)
    → KeepsStore s e (writing.written s by fd to w)
store_wrote s e by fd to w changes writes =
    let wrote = store_written s by fd to w in
    store_of s (writing.written s by fd to w) e wrote.files wrote.pools
    (λ un. (files_written s by fd to w (sym changes ∙ un)).1) (λ f un. wrote.contents f (sym (writes f) ∙ un))

-- an element is appended to a list
numbered-push : {A : Type 0} (xs : List A) (x z : A) (n : ℕ) → is_numbered xs n ≡ true
    → numbered_or (xs ++ x ∷ []) n z ≡ numbered_or xs n z
numbered-push xs x z n is = grind (arith, nat_tests, common_steps, is)

pool-push : (s : State) (x : Pool) (p : ℕ) → is_pool s p ≡ true
    → pool (record s { pools = s.pools ++ x ∷ [] }) p ≡ pool s p
unfolding pool
pool-push s x p is = numbered-push s.pools x no_pool p is

file-more : (s : State) (x : File) (f : ℕ) → is_numbered s.files f ≡ true
    → file (record s { files = s.files ++ x ∷ [] }) f ≡ file s f
unfolding file
file-more s x f is = numbered-push s.files x no_file f is

position-more : (p : File → Bool) (xs ys : List File) (i : ℕ) → position p xs ≡ Some i → position p (xs ++ ys) ≡ Some i
position-more p [] ys i is = absurd (cc)
position-more p (x ∷ xs) ys i is = by (p x) refl (position-more p xs ys)
  where
    by : (b : Bool) → p x ≡ b → ((i : ℕ) → position p xs ≡ Some i → position p (xs ++ ys) ≡ Some i)
        → position p ((x ∷ xs) ++ ys) ≡ Some i
    by true here rest = grind (arith, common_steps, here, is)
    by false there rest = later (position p xs) refl
      where
        later : (o : Option ℕ) → position p xs ≡ o → position p ((x ∷ xs) ++ ys) ≡ Some i
        later None none = absurd (let e : position p (x ∷ xs) ≡ None = grind (arith, common_steps, there, none) in
            cc (e, is))
        later (Some j) some = (let r = rest j some in grind (arith, common_steps, there, some, is, r))

called-more : (s : State) (x : File) (name : List ℕ) (f : ℕ) → file_called s name ≡ Some f
    → file_called (record s { files = s.files ++ x ∷ [] }) name ≡ Some f
called-more s x name f is = by (position (λ (y : File). bytes_eq y.name name) s.files) refl
  where
    by : (o : Option ℕ) → position (λ (y : File). bytes_eq y.name name) s.files ≡ o
        → file_called (record s { files = s.files ++ x ∷ [] }) name ≡ Some f
    by None none = absurd (let e = ap (λ (o : Option ℕ). option_map (λ i. i + 1) o) none in cc (e, is))
    by (Some i) some =
        ap (λ (o : Option ℕ). option_map (λ i. i + 1) o)
        (position-more (λ (y : File). bytes_eq y.name name) s.files (x ∷ []) i some ∙ sym some) ∙ is

pub pool-other : (s : State) (q p : ℕ) (x : Pool) → q ≢ p
    → pool (record s { pools = with_numbered s.pools q x }) p ≡ pool s p
unfolding pool
pool-other s q p x differ =
    elim (numbered_or-with s.pools q p x no_pool) [ inl both ↦ absurd (differ both.0) | inr same ↦ same ]

pub list-closed : (s : State) (q p : ℕ)
    → (pool (record s { pools = with_numbered s.pools q (record (pool s q) { closed = true }) }) p).domains
    ≡ (pool s p).domains
unfolding pool
list-closed s q p = elim (numbered_or-with s.pools q p (record (pool s q) { closed = true }) no_pool) [
  | inl both ↦ ap (λ (x : Pool). x.domains) both.1 ∙ ap (λ n. (pool s n).domains) both.0
  | inr same ↦ ap (λ (x : Pool). x.domains) same
]

list-admitted : (s : State) (q d p : ℕ)
    → Grows (pool s p).domains (pool (record s { pools = with_numbered s.pools q (admitting (pool s q) d) }) p).domains
unfolding pool
list-admitted s q d p = elim (numbered_or-with s.pools q p (admitting (pool s q) d) no_pool) [
  | inl both ↦ subst (λ (x : Pool). Grows (pool s p).domains x.domains) (sym both.1)
      (subst (λ n. Grows (pool s n).domains (admitting (pool s q) d).domains) both.0 (grows_named (pool s q).domains d))
  | inr same ↦ grows_same _ _ (ap (λ (x : Pool). x.domains) same)
]

-- a call that creates or changes pools, and leaves files unchanged
store_pools : (s : State) (e : Event) (ps : List Pool) → changes_pools e ≡ true
    → ((p : ℕ) → is_pool s p ≡ true → is_numbered ps p ≡ true)
    → ((p : ℕ) → is_pool s p ≡ true → Grows (pool s p).domains (numbered_or ps p no_pool).domains)
    → ((p : ℕ) → is_pool s p ≡ true → closes_pool e p ≡ false → admits_to e p ≡ false
    → numbered_or ps p no_pool ≡ pool s p)
    → ((p : ℕ) → is_pool s p ≡ true → admits_to e p ≡ false
    → (numbered_or ps p no_pool).domains ≡ (pool s p).domains)
    → KeepsStore s e (record s { pools = ps })
unfolding pool
store_pools s e ps changes numbered lists same listed =
    let t : State = record s { pools = ps } in
    record {
      files = λ un. (refl, refl);
      contents = λ f un. content-same s t f refl;
      known = λ f is. file-same s t f refl;
      called = λ name f is. is;
      numbered = numbered;
      lists = lists;
      pools = same;
      listed = listed;
      table = λ un. absurd (cc (changes, un));
    }

store_pooled : (s : State) (by chunks : ℕ) (list : List ℕ)
    → KeepsStore s (event.Call by (call.PoolCreate chunks list)) (called s by (call.PoolCreate chunks list)).after
unfolding pool
store_pooled s by chunks list =
    store_pools s _ _ refl (λ p is. there-push s.pools _ p is)
    (λ p is. grows_same _ _ (ap (λ (x : Pool). x.domains) (pool-push s _ p is)))
    (λ p is un none. pool-push s _ p is)
    (λ p is none. ap (λ (x : Pool). x.domains) (pool-push s _ p is))

store_unpooled : (s : State) (by q : ℕ)
    → KeepsStore s (event.Call by (call.PoolClose q)) (called s by (call.PoolClose q)).after
unfolding pool
store_unpooled s by q =
    store_pools s _ _ refl (λ p is. there-with s.pools q _ p is) (λ p is. grows_same _ _ (list-closed s q p))
    (λ p is un none. pool-other s q p _ (apart q p un)) (λ p is none. list-closed s q p)

store_listed : (s : State) (by q d : ℕ)
    → KeepsStore s (event.Call by (call.PoolAdmit q d)) (called s by (call.PoolAdmit q d)).after
unfolding pool
store_listed s by q d =
    store_pools s _ _ refl (λ p is. there-with s.pools q _ p is) (λ p is. list-admitted s q d p)
    (λ p is un none. pool-other s q p _ (apart q p none))
    (λ p is none. ap (λ (x : Pool). x.domains) (pool-other s q p _ (apart q p none)))

store_filed : (s : State) (by : ℕ) (name : List ℕ) (p : ℕ)
    → KeepsStore s (event.Call by (call.FileNew name p)) (called s by (call.FileNew name p)).after
store_filed s by name p =
    let t : State = (called s by (call.FileNew name p)).after in
    record {
      files = λ changed. absurd (cc);
      contents = λ f un. content-same s t f refl;
      known = λ f is. file-more s _ f is;
      called = λ name f is. called-more s _ name f is;
      numbered = λ q is. there-same s t q refl is;
      lists = λ q is. grows_same _ _ (ap (λ (x : Pool). x.domains) (pool-same s t q refl));
      pools = λ q is un none. pool-same s t q refl;
      listed = λ q is none. ap (λ (x : Pool). x.domains) (pool-same s t q refl);
      table = λ un. refl;
    }

store_called : (s : State) (by : ℕ) (k : Call) → KeepsStore s (event.Call by k) (called s by k).after
store_called s by (call.PoolCreate chunks list) = store_pooled s by chunks list
store_called s by (call.PoolClose p) = store_unpooled s by p
store_called s by (call.PoolAdmit p d) = store_listed s by p d
store_called s by (call.FileNew name p) = store_filed s by name p
store_called s by (call.IolWrite fd a) =
    store_wrote s (event.Call by (call.IolWrite fd a)) by fd (descriptor s by fd) _ refl (λ f. refl)
store_called s by (call.Write fd bytes) =
    store_wrote s (event.Call by (call.Write fd bytes)) by fd (descriptor s by fd) _ refl (λ f. refl)
store_called s by (call.GiveFd fd to) =
    store_kept s (called s by (call.GiveFd fd to)).after _
    (store_left s by (call.GiveFd fd to) refl (none_handed of_store by fd to (descriptor s by fd) refl (λ x. refl)))
store_called s by k = store_kept s (called s by k).after _ (store_left s by k refl refl)

pub store_meant : (s : State) (e : Event) → KeepsStore s e (meaning s e).after
unfolding with_conn
store_meant s (event.Call by k) = store_called s by k
store_meant s e = store_kept s (meaning s e).after e (record { files = refl; slots = refl; pools = refl })
