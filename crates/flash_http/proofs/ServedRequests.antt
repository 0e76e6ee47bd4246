-- Properties of every request that is served.
use Rattle.std.proofs.Common.{◌∙◌, if◌then◌else◌, ◌≡◌, ℕ, ◌==◌, ◌||◌, not, Bool, true, false, cond, List, [], ◌∷◌}
use Rattle.std.proofs.Common.{Option, Some, None, refl, sym, ap, subst}
use Rattle.std.specs.Prelude.{MatchOption, option_and_then}
use Rattle.std.specs.List.{list_any}
use Rattle.http_uri.specs.Uri.{uri_path}
use Rattle.percent_encoding.specs.Percent.{percent_decode}
use Rattle.flash_http.specs.Fields.{has_content, is_served_method, one_range}
use Rattle.flash_http.specs.Target.{Names, TargetIs, segments, is_dot_segment, without_slash, or_index, file_name}
use Rattle.flash_http.specs.Request.{Answer, serve, refuse, Wanted, Reading, is_head_only, is_host_fine, closes}
use Rattle.flash_http.specs.Request.{bad_request, refusal, served, Asks, IsPlainName, NamesArePlain, HeadsHaveNoRange}
use Rattle.flash_http.specs.Range.{part_of_value}
use Rattle.flash_http.specs.MediaType.{is_script}
use Rattle.flash_http.specs.declared.requests.Part.{Part}

or_right : (a b : Bool) → (a || b) ≡ false → b ≡ false
or_right false b h = h
or_right true b h = cc

-- ---- names

rest_lacks : (p : ℕ → Bool) (path : List ℕ) → list_any p path ≡ false → list_any p (without_slash path) ≡ false
rest_lacks p [] h = h
rest_lacks p (b ∷ path) h = cut (b == 47) refl
  where
    cut : (v : Bool) → (b == 47) ≡ v → list_any p (cond v path (b ∷ path)) ≡ false
    cut true e = or_right (p b) (list_any p path) h
    cut false e = h

rest_parts : (path : List ℕ) → list_any is_dot_segment (segments path) ≡ false
    → list_any is_dot_segment (segments (without_slash path)) ≡ false
rest_parts [] h = h
rest_parts (b ∷ path) h = cut (b == 47) refl
  where
    cut : (v : Bool) → (b == 47) ≡ v → list_any is_dot_segment (segments (cond v path (b ∷ path))) ≡ false
    cut true e = rw e at h
    cut false e = h

plain : (name : List ℕ) → list_any (λ b. b == 0) name ≡ false → list_any is_dot_segment (segments name) ≡ false
    → IsPlainName (or_index name)
plain [] a b = record { some = λ e. cc; no_nul = refl; no_dots = refl }
plain (c ∷ name) a b = record { some = λ e. cc; no_nul = a; no_dots = b }

plain_name : (target name query : List ℕ) → Names target name query → IsPlainName name
plain_name target name query h =
    let text = percent_decode (uri_path h.uri) in
    let is_plain : IsPlainName (file_name (uri_path h.uri)) =
    plain _ (rest_lacks (λ b. b == 0) text h.is_path.no_nul) (rest_parts text h.is_path.no_dots) in
    subst (λ n. IsPlainName n) (sym h.is_name) is_plain

-- ---- a served request names a file

name_of : Answer → List ℕ
name_of (serve w) = w.name
name_of (refuse status head_only close) = []

no_refusal : (u v : Bool) (r : Reading) (k : ℕ) (w : Wanted)
    → cond u (Some (bad_request r)) (cond v None (Some (refuse k (is_head_only r) (closes r)))) ≡ Some (serve w) → ⊥
no_refusal true v r k w e = cc
no_refusal false true r k w e = cc
no_refusal false false r k w e = cc

served_file : (r : Reading) (w : Wanted) (file : Option (List ℕ × List ℕ)) → TargetIs r.target file
    → serve w ≡ served r file → IsPlainName w.name
unfolding name_of
served_file r w None h e = cc
served_file r w (Some file) h e = subst (λ n. IsPlainName n) (sym (ap name_of e)) (plain_name r.target file.0 file.1 h)

-- a served request is that of the parsed head, with a target that names a file or not
served_from : (r : Reading) (w : Wanted) (o : Option Answer) → (o ≡ Some (serve w) → ⊥)
    → MatchOption o ((file : Option (List ℕ × List ℕ)) × TargetIs r.target file × (serve w ≡ served r file))
    (λ refused. serve w ≡ refused)
    → (file : Option (List ℕ × List ℕ)) × TargetIs r.target file × (serve w ≡ served r file)
served_from r w None no_serve h = h
served_from r w (Some refused) no_serve h = absurd (no_serve (ap (λ a. Some a) (sym h)))

pub from_reading : (r : Reading) (w : Wanted) → Asks (Some r) (serve w) → (file : Option (List ℕ × List ℕ))
    × TargetIs r.target file × (serve w ≡ served r file)
from_reading r w h =
    served_from r w (refusal r) (no_refusal (not (is_host_fine r) || has_content r.fields) (is_served_method r.method) r
    _ w) h

by_reading : (o : Option Reading) (w : Wanted) → Asks o (serve w) → IsPlainName w.name
by_reading None w h = cc
by_reading (Some r) w h = let f = from_reading r w h in served_file r w f.0 f.1 f.2

pub names_are_plain : NamesArePlain
names_are_plain head w h = by_reading h.0 w h.2

-- ---- a HEAD request has no range

abbrev head_of : Answer → Bool
head_of (serve w) = w.head_only
head_of (refuse status head_only close) = head_only

abbrev part_of : Answer → Option Part
part_of (serve w) = w.range
part_of (refuse status head_only close) = None

no_range : (r : Reading) (w : Wanted) (file : Option (List ℕ × List ℕ)) → serve w ≡ served r file → w.head_only ≡ true
    → w.range ≡ None
no_range r w None e is = cc
no_range r w (Some file) e is =
    let heads : is_head_only r ≡ true = sym (ap head_of e) ∙ is in
    ap part_of e ∙ ap (λ b. if b || is_script file.0 then None else option_and_then part_of_value (one_range r.fields))
    heads

unranged : (o : Option Reading) (w : Wanted) → Asks o (serve w) → w.head_only ≡ true → w.range ≡ None
unranged None w h is = cc
unranged (Some r) w h is = let f = from_reading r w h in no_range r w f.0 f.2 is

pub heads_have_no_range : HeadsHaveNoRange
heads_have_no_range head w h is = unranged h.0 w h.2 is
