-- Making the buffered output: a text, with the bytes of files inserted.
use Rattle.std.proofs.Common.{inl, ◌≡◌, ◌≢◌, ℕ, ◌+◌, ◌-◌, ◌==◌, ◌⊎◌, List, [], ◌∷◌, ◌++◌, length, take, drop, ap, ◌∙◌}
use Rattle.std.proofs.Common.{refl, sym, subst, arith, ◌≤◌, Option, Some, None, false, append_assoc}
use Rattle.std.specs.Prelude.{not}
use Rattle.iol_core.specs.Text.{Text, bytes_of}
use Rattle.iol_core.specs.State.{State, File, pipe_at, file}
use Rattle.iol_core.specs.Run.{StepsTo}
use Rattle.iol_core.specs.declared.descriptors.Descriptor.TheVariants as on
use Rattle.iol_core.specs.declared.descriptors.Mode.TheVariants.{Read}
use Rattle.iol_core.specs.declared.events.Call.{Call}
use Rattle.iol_core.specs.declared.events.Call.TheVariants as call
use Rattle.iol_core.specs.declared.events.Event.TheVariants as event
use Rattle.iol_core.specs.declared.events.Reply.{Reply}
use Rattle.iol_core.specs.declared.events.Reply.TheVariants as reply
use Rattle.iol_laws.specs.Caller as o
use Rattle.iol_laws.specs.Caller.{CallsServeTheirDomain, readable_at}
use Rattle.iol_laws.specs.CallerFiles as fl
use Rattle.iol_laws.specs.Frame.{EachStepLeavesTheRest, Leaves}
use Rattle.iol_laws.specs.Order.{IsOrderly}
use Rattle.flash_cgi.specs.Collecting.{Collected, bytes_of_one, but_last, collected, collected_in, last_place}
use Rattle.flash_cgi.specs.Collecting.{with_held, without_files, without_last, without_text, interleaved}
use Rattle.flash_cgi.specs.Job.{Task}
use Rattle.flash_cgi.specs.Output.{Outcome}
use Rattle.flash_cgi.specs.Pieces.{AreWithin, Cuts, DropsPart, HasPiece, HoldsAt, IsApart, IsReadable, FilesAreReadable}
use Rattle.flash_cgi.specs.Pieces.{NextIsReadable, Replaces}
use Rattle.flash_cgi.specs.WorkerSteps.{bytes_at, place_at, after_making, after_parting, after_replacing, interleave_by}
use Rattle.flash_cgi.specs.WorkerSteps.{interleave_on}
use Rattle.flash_cgi.specs.Feeds.{rest_of, set_in, still, Needs, Feeds, resolved, Ends, ComesTo, Comes}
use Rattle.flash_cgi.specs.declared.phase.Phase.TheVariants as phase
use Rattle.flash_cgi.specs.declared.phase.Step.{Step}
use Rattle.flash_cgi.specs.declared.piece.Place.{Place}
use Rattle.flash_cgi.proofs.Interleaving.{IsStillReadable, new_apart, piece_kept, rest_text, set_last, text_kept}
use Rattle.flash_cgi.proofs.Interleaving.{within_set}
use Rattle.flash_cgi.proofs.StaysByCall.{and_false, not-equal, at_step, two_numbers, same_bytes, is_bytes, all_same}
use Rattle.flash_cgi.proofs.StaysByCall.{readable-stays, still_readable, after_drop, beside_drop, goes}

module _ (steps : EachStepLeavesTheRest) (own : CallsServeTheirDomain) where
  -- ---- the aggregate of the buffered text is made

  -- at this step the aggregate of this text is made, and the bytes of files are still to be inserted
  abbrev Ready : (n : State) → (d : ℕ) → Task → (begun : ℕ) → (text : List ℕ) → Collected → Step → Type 0
  Ready n d job begun text x v = Needs n d v.phase × HoldsAt (readable_at n d) v.piece v.phase
      × ((os : List Outcome) → still job (readable_at n d) v os ≡ collected_in (readable_at n d) text x
      ++ rest_of job begun os)

  pub interleaves : (n : State) (d : ℕ) (job : Task) (begun a : ℕ) (x : Collected) → IsReadable (readable_at n d) a
      → HasPiece (readable_at n d) (length (bytes_at (readable_at n d) a)) x → x.text ≡ [] → IsApart x a
      → Ready n d job begun (bytes_at (readable_at n d) a) x (interleave_on begun x a)
  interleaves n d job begun a x is_readable piece no_text apart = by x.held x.places refl refl
    where
      text : List ℕ
      text = bytes_at (readable_at n d) a

      -- if no file is left, the text is all of the buffered output
      all : x.places ≡ [] → (os : List Outcome)
          → text ++ (bytes_of_one (readable_at n d) x.next ++ rest_of job begun os) ≡ collected_in (readable_at n d)
          text x ++ rest_of job begun os
      all no_places os =
          sym (append_assoc text (bytes_of_one (readable_at n d) x.next) (rest_of job begun os))
          ∙ ap
          (λ (ps : List Place). (interleaved text ps (bytes_of_one (readable_at n d) x.held)
          ++ bytes_of_one (readable_at n d) x.next) ++ rest_of job begun os) (sym no_places)

      no_next : (held next : Option ℕ) → NextIsReadable (readable_at n d) held next
          → NextIsReadable (readable_at n d) None next
      no_next held None l = tt
      no_next held (Some b) l = (l.0, λ e. absurd (cc (e)))

      apart_next : (held b : ℕ) (next : Option ℕ) → NextIsReadable (readable_at n d) (Some held) next → next ≢ Some held
      apart_next held b None l e = absurd (cc (e))
      apart_next held b (Some c) l e = l.1 (sym e)

      by : (h : Option ℕ) (ps : List Place) → x.held ≡ h → x.places ≡ ps
          → Ready n d job begun text x (interleave_by h (last_place ps) begun x a)
      by None ps is places =
          let none : x.places ≡ [] =
          subst (λ (o : Option ℕ). FilesAreReadable (readable_at n d) o x.places) is piece.files in (
            is_readable,
            (
              record {
                piece =
                    record {
                      files = piece.files;
                      within = subst (λ (l : List Place). AreWithin (length x.text) l) (sym none) tt;
                      next = piece.next;
                    };
                no_text = no_text;
                no_places = none;
              },
              apart,
            ),
            λ os. ap (λ (l : List ℕ). text ++ (l ++ rest_of job begun os)) (rest_text (readable_at n d) x no_text none)
                ∙ all none os,
          )
      by (Some held) [] is none =
          let left : Collected = without_files x in
          let next_is = subst (λ (o : Option ℕ). NextIsReadable (readable_at n d) o x.next) is piece.next in (
            (is_readable, λ same. apart.0 (is ∙ ap (λ k. Some k) same)),
            (
              record {
                piece = record { files = refl; within = tt; next = no_next x.held x.next piece.next };
                no_text = no_text;
                no_places = refl;
              },
              (λ e. absurd (cc (e)), apart_next held a x.next next_is),
              (λ e. absurd (cc (e)), apart.1),
            ),
            λ os. ap (λ (l : List ℕ). text ++ (l ++ rest_of job begun os))
                (rest_text (readable_at n d) left no_text refl) ∙ all none os,
          )
      by (Some held) (place ∷ ps) is places = (
        tt,
        record {
          place = place;
          is_readable = is_readable;
          piece = piece;
          no_text = no_text;
          held_is = is;
          places_are = places ∙ ap (λ (l : List Place). place ∷ but_last l) (sym places);
          from_is = refl;
          apart = apart;
        },
        λ os. refl,
      )

  pub makes : (m n : State) (d p : ℕ) (job : Task) (begun : ℕ) (x : Collected) (r : Reply) (unseen : List Outcome
      → List ℕ) → IsOrderly m → (f : Feeds m d p job (at_step phase.Interpreting begun x) unseen)
      → resolved job (at_step phase.Interpreting begun x) (readable_at n d) r ≡ []
      → StepsTo m (event.Call d (call.AggMake x.text)) r n
      → ComesTo m d p job (at_step phase.Interpreting begun x) unseen r n (after_making x begun r)
  makes m n d p job begun x r unseen order f none step = by r none step (own.make m n d x.text r order step)
    where
      by : (r : Reply) → resolved job (at_step phase.Interpreting begun x) (readable_at n d) r ≡ []
          → StepsTo m (event.Call d (call.AggMake x.text)) r n → o.Makes m d x.text r n
          → ComesTo m d p job (at_step phase.Interpreting begun x) unseen r n (after_making x begun r)
      by (reply.Agg a) none step did =
          subst (λ (used : List Outcome). ComesUsing used) (sym none)
          (inl (goes steps m n d p job (at_step phase.Interpreting begun x) v unseen [] (call.AggMake x.text)
          (reply.Agg a) f
          step refl refl refl
          ready.0 ready.1 (λ os. ready.2 os ∙ ap (λ (l : List ℕ). l ++ rest_of job begun os)
          (ap (λ (l : List ℕ). collected_in (readable_at n d) l x) (is_bytes n d a x.text did.0)
          ∙ all_same m n d x stays f.holds))))
        where
          v : Step
          v = interleave_on begun (without_text x) a

          ComesUsing : List Outcome → Type 0
          ComesUsing used = Feeds n d p job v (λ os. unseen (used ++ os))
              ⊎ (Ends m d p unseen (reply.Agg a) v n ⊎ ((pipe_at n p).reading ≡ false))

          stays : IsStillReadable (readable_at m d) (readable_at n d) x
          stays = still_readable steps m n d (call.AggMake x.text) (reply.Agg a) x step (λ b one. refl)

          piece : HasPiece (readable_at n d) (length x.text) x
          piece = piece_kept (readable_at m d) (readable_at n d) (length x.text) x stays f.holds

          ready : Ready n d job begun (bytes_at (readable_at n d) a) (without_text x) v
          ready = interleaves n d job begun a (without_text x) (x.text, did.0)
              (record {
                files = piece.files;
                within = subst (λ (l : List ℕ). AreWithin (length l) x.places) (sym (is_bytes n d a x.text did.0))
                    piece.within;
                next = piece.next;
              }) refl (new_apart (readable_at m d) (length x.text) x a f.holds did.1)
      by (reply.Refused y) none step did = did
      by r none step did = absurd did

  -- ---- the bytes of the last file are cut off, and inserted into the text

  pub parts : (m n : State) (d p : ℕ) (job : Task) (begun held a from : ℕ) (x : Collected) (r : Reply)
      (unseen : List Outcome → List ℕ) → IsOrderly m
      → Feeds m d p job (at_step (phase.CuttingPart held a from) begun x) unseen
      → StepsTo m (event.Call d (call.AggSplit held from)) r n
      → Comes m d p job (at_step (phase.CuttingPart held a from) begun x) unseen r n
  parts m n d p job begun held a from x r unseen order f step =
      by r step (own.split m n d held from there.0 r order there.1 step)
    where
      h : Cuts (readable_at m d) x held a from
      h = f.holds

      ps : List Place
      ps = but_last x.places

      there : IsReadable (readable_at m d) held
      there = subst (λ (o : Option ℕ). FilesAreReadable (readable_at m d) o x.places) f.holds.held_is
          f.holds.piece.files

      next_is : NextIsReadable (readable_at m d) (Some held) x.next
      next_is = subst (λ (o : Option ℕ). NextIsReadable (readable_at m d) o x.next) h.held_is h.piece.next

      held_apart : held ≢ a
      held_apart same = h.apart.0 (h.held_is ∙ ap (λ k. Some k) same)

      within : AreWithin (length (bytes_at (readable_at m d) a)) (h.place ∷ ps)
      within = subst (λ (l : List Place). AreWithin (length (bytes_at (readable_at m d) a)) l) h.places_are
          h.piece.within

      place_now : place_at (last_place x.places) ≡ h.place.at
      place_now = ap (λ (l : List Place). place_at (last_place l)) h.places_are

      -- an aggregate with another number is still readable
      left : (b : ℕ) (bytes : List ℕ) (r : Reply) → StepsTo m (event.Call d (call.AggSplit held from)) r n → held ≢ b
          → readable_at m d b ≡ Some bytes → readable_at n d b ≡ Some bytes
      left b bytes r step differ is =
          readable-stays steps m n (event.Call d (call.AggSplit held from)) r step d b bytes is
          (and_false (d == d) (held == b) (not-equal held b differ))

      next_left : (front : ℕ) (r : Reply) → StepsTo m (event.Call d (call.AggSplit held from)) r n
          → readable_at m d front ≡ None → (next : Option ℕ) → NextIsReadable (readable_at m d) (Some held) next
          → NextIsReadable (readable_at n d) (Some front) next
      next_left front r step new None l = tt
      next_left front r step new (Some b) l = (
        (l.0.0, left b l.0.0 r step (λ same. l.1 (ap (λ k. Some k) same)) l.0.1),
        λ e. (let same : front ≡ b = cc in let t = ap (λ k. readable_at m d k) same in let was = l.0.1 in
            absurd (cc (t, was, new))),
      )

      next_same : (r : Reply) → StepsTo m (event.Call d (call.AggSplit held from)) r n → (next : Option ℕ)
          → NextIsReadable (readable_at m d) (Some held) next
          → bytes_of_one (readable_at n d) next ≡ bytes_of_one (readable_at m d) next
      next_same r step None l = refl
      next_same r step (Some b) l =
          same_bytes m n d b l.0.0 l.0.1 (left b l.0.0 r step (λ same. l.1 (ap (λ k. Some k) same)) l.0.1)

      by : (r : Reply) → StepsTo m (event.Call d (call.AggSplit held from)) r n
          → o.MakesTwo m d (take from there.0) (drop from there.0) r n
          → ComesTo m d p job (at_step (phase.CuttingPart held a from) begun x) unseen r n (after_parting x a begun r)
      by (reply.Aggs front part) step did =
          inl (goes steps m n d p job (at_step (phase.CuttingPart held a from) begun x) v unseen []
          (call.AggSplit held from) (reply.Aggs front part) f step refl refl refl tt holds same)
        where
          v : Step
          v = at_step (phase.ReplacingPart a part (place_at (last_place x.places))) begun (with_held x front)

          has : readable_at n d a ≡ Some h.is_readable.0
          has = left a h.is_readable.0 (reply.Aggs front part) step held_apart h.is_readable.1

          same_a : bytes_at (readable_at n d) a ≡ bytes_at (readable_at m d) a
          same_a = same_bytes m n d a h.is_readable.0 h.is_readable.1 has

          apart_new : (b : ℕ) → readable_at m d b ≡ None → (x.held ≢ Some b) × (x.next ≢ Some b)
          apart_new b new = new_apart (readable_at m d) (length (bytes_at (readable_at m d) a)) x b h.piece new

          not_a : (b : ℕ) → readable_at m d b ≡ None → b ≢ a
          not_a b new same = (let e = ap (λ k. readable_at m d k) same in let was = h.is_readable.1 in
              absurd (cc (e, was, new)))

          some_same : (b c : ℕ) → Some b ≡ Some c → b ≡ c
          some_same b c e = cc

          holds : Replaces (readable_at n d) (with_held x front) a part (place_at (last_place x.places))
          holds = record {
            is_readable = (h.is_readable.0, has);
            parts = (drop from there.0, did.1);
            piece = record {
              files = (take from there.0, did.0);
              within = subst (λ (k : ℕ). AreWithin k ps) (sym place_now) within.1;
              next = next_left front (reply.Aggs front part) step did.2 x.next next_is;
            };
            within = (let le = within.0 in let e = ap (λ (l : List ℕ). length l) same_a in
                omega (arith, le, e, place_now));
            no_text = h.no_text;
            apart = (λ e. not_a front did.2 (some_same front a e), h.apart.1);
            part_apart =
                (λ e. two_numbers m n d held from front part step (some_same front part e), (apart_new part did.3).1);
            differ = λ same. not_a part did.3 (sym same);
          }

          same : (os : List Outcome)
              → still job (readable_at n d) v os ≡ collected_in (readable_at m d) (bytes_at (readable_at m d) a) x
              ++ rest_of job begun os
          same os = ap (λ (l : List ℕ). l ++ rest_of job begun os)
              (ap
              (λ (l : List ℕ). interleaved (set_in (bytes_at (readable_at n d) a) (place_at (last_place x.places))
              (bytes_at (readable_at n d) part)) ps (bytes_at (readable_at n d) front) ++ l)
              (next_same (reply.Aggs front part) step x.next next_is)
              ∙ ap (λ (l : List ℕ). l ++ bytes_of_one (readable_at m d) x.next) interleaved_same)
            where
              interleaved_same :
                  interleaved (set_in (bytes_at (readable_at n d) a) (place_at (last_place x.places))
                  (bytes_at (readable_at n d) part)) ps (bytes_at (readable_at n d) front)
                  ≡ interleaved (bytes_at (readable_at m d) a) x.places (bytes_of_one (readable_at m d) x.held)
              interleaved_same =
                  ap
                  (λ (l : List ℕ).
                  interleaved (set_in l (place_at (last_place x.places)) (bytes_at (readable_at n d) part)) ps
                  (bytes_at (readable_at n d) front)) same_a
                  ∙ (ap
                  (λ (k : ℕ).
                  interleaved (set_in (bytes_at (readable_at m d) a) k (bytes_at (readable_at n d) part)) ps
                  (bytes_at (readable_at n d) front)) place_now
                  ∙ (ap (λ (l : List ℕ). interleaved (set_in (bytes_at (readable_at m d) a) h.place.at l) ps
                  (bytes_at (readable_at n d) front)) (is_bytes n d part (drop from there.0) did.1)
                  ∙ (ap
                  (λ (l : List ℕ).
                  interleaved (set_in (bytes_at (readable_at m d) a) h.place.at (drop from there.0)) ps l)
                  (is_bytes n d front (take from there.0) did.0)
                  ∙ (ap (λ (k : ℕ). interleaved (set_in (bytes_at (readable_at m d) a) h.place.at (drop k there.0)) ps
                  (take k there.0)) (sym h.from_is)
                  ∙ (sym (set_last (bytes_at (readable_at m d) a) there.0 h.place ps within.0 within.1)
                  ∙ (ap (λ (l : List Place). interleaved (bytes_at (readable_at m d) a) l there.0) (sym h.places_are)
                  ∙ ap (λ (l : List ℕ). interleaved (bytes_at (readable_at m d) a) x.places l)
                  (sym (ap (λ (o : Option ℕ). bytes_of_one (readable_at m d) o) h.held_is
                  ∙ is_bytes m d held there.0 there.1))))))))
      by (reply.Refused y) step did = did
      by r step did = absurd did

  pub replaces : (m n : State) (d p : ℕ) (job : Task) (begun a part at : ℕ) (x : Collected) (r : Reply)
      (unseen : List Outcome → List ℕ) → IsOrderly m
      → Feeds m d p job (at_step (phase.ReplacingPart a part at) begun x) unseen
      → StepsTo m (event.Call d (call.AggReplace a at at part)) r n
      → Comes m d p job (at_step (phase.ReplacingPart a part at) begun x) unseen r n
  replaces m n d p job begun a part at x r unseen order f step =
      by r step (own.replace m n d a at at part f.holds.is_readable.0 f.holds.parts.0 r order f.holds.is_readable.1
      f.holds.parts.1 step)
    where
      h : Replaces (readable_at m d) x a part at
      h = f.holds

      text : List ℕ
      text = set_in h.is_readable.0 at h.parts.0

      was : set_in (bytes_at (readable_at m d) a) at (bytes_at (readable_at m d) part) ≡ text
      was =
          ap (λ (l : List ℕ). set_in l at (bytes_at (readable_at m d) part))
          (is_bytes m d a h.is_readable.0 h.is_readable.1)
          ∙ ap (λ (l : List ℕ). set_in h.is_readable.0 at l) (is_bytes m d part h.parts.0 h.parts.1)

      by : (r : Reply) → StepsTo m (event.Call d (call.AggReplace a at at part)) r n
          → o.Makes m d (take at h.is_readable.0 ++ h.parts.0 ++ drop at h.is_readable.0) r n
          → ComesTo m d p job (at_step (phase.ReplacingPart a part at) begun x) unseen r n
          (after_replacing x a part begun r)
      by (reply.Agg b) step did =
          let made_is : readable_at n d b ≡ Some text =
          did.0
          ∙ ap (λ (l : List ℕ). Some l)
          (append_assoc (take at h.is_readable.0) h.parts.0 (drop at h.is_readable.0)) in
          let stays = still_readable steps m n d (call.AggReplace a at at part) (reply.Agg b) (without_last x) step
          (λ c one. refl) in
          let piece = piece_kept (readable_at m d) (readable_at n d) at (without_last x) stays h.piece in
          let len = ap (λ (l : List ℕ). length l) (is_bytes m d a h.is_readable.0 h.is_readable.1) in
          let le : at ≤ length h.is_readable.0 = (let w = h.within in omega (arith, w, len)) in
          let new = new_apart (readable_at m d) at (without_last x) b h.piece did.1 in
          let other : (c : ℕ) (bytes : List ℕ) → readable_at m d c ≡ Some bytes → c ≢ b =
          λ c bytes is same. (let e = ap (λ k. readable_at m d k) same in let none = did.1 in
          absurd (cc (e, is, none))) in
          inl (goes steps m n d p job (at_step (phase.ReplacingPart a part at) begun x)
          (at_step (phase.DroppingText a part b) begun (without_last x)) unseen [] (call.AggReplace a at at part)
          (reply.Agg b) f step refl refl refl tt
          (record {
            drops = record {
              is_readable = (text, made_is);
              piece = record {
                files = piece.files;
                within =
                    subst (λ (l : List ℕ). AreWithin (length l) (but_last x.places)) (sym (is_bytes n d b text made_is))
                    (within_set h.is_readable.0 h.parts.0 at (but_last x.places) le piece.within);
                next = piece.next;
              };
              no_text = h.no_text;
              part_apart = h.part_apart;
              made_apart = new;
              differ = other part h.parts.0 h.parts.1;
            };
            apart = h.apart;
            differ = other a h.is_readable.0 h.is_readable.1;
          })
          (λ os. ap (λ (l : List ℕ). l ++ rest_of job begun os)
          (ap (λ (l : List ℕ). collected_in (readable_at n d) l (without_last x)) (is_bytes n d b text made_is
          ∙ sym was)
          ∙ text_kept (readable_at m d) (readable_at n d) at
          (set_in (bytes_at (readable_at m d) a) at (bytes_at (readable_at m d) part)) (without_last x) stays
          h.piece)))
      by (reply.Refused y) step did = did
      by r step did = absurd did

  -- ---- the text without them, and the bytes cut off, are dropped

  -- the aggregate that was made is still readable, with the same bytes
  made_still : (m n : State) (d : ℕ) (job : Task) (begun a part b : ℕ) (x : Collected) (r : Reply)
      → StepsTo m (event.Call d (call.AggDrop a)) r n → DropsPart (readable_at m d) x part b → IsApart x a → a ≢ b
      → IsReadable (readable_at n d) b × HasPiece (readable_at n d) (length (bytes_at (readable_at n d) b)) x
      × ((os : List Outcome) → collected_in (readable_at n d) (bytes_at (readable_at n d) b) x ++ rest_of job begun os
      ≡ collected_in (readable_at m d) (bytes_at (readable_at m d) b) x ++ rest_of job begun os)
  made_still m n d job begun a part b x r step h apart differ =
      let stays = after_drop steps m n d a r x step apart in
      let now = beside_drop steps m n d a b r step differ h.is_readable in
      let same = same_bytes m n d b h.is_readable.0 h.is_readable.1 now.1 in (
        now,
        subst (λ (l : List ℕ). HasPiece (readable_at n d) (length l) x) (sym same)
            (piece_kept (readable_at m d) (readable_at n d) (length (bytes_at (readable_at m d) b)) x stays h.piece),
        λ os. ap (λ (l : List ℕ). l ++ rest_of job begun os)
            (ap (λ (l : List ℕ). collected_in (readable_at n d) l x) same
            ∙ text_kept (readable_at m d) (readable_at n d) (length (bytes_at (readable_at m d) b))
            (bytes_at (readable_at m d) b) x stays h.piece),
      )

  pub drops_text : (m n : State) (d p : ℕ) (job : Task) (begun a part b : ℕ) (x : Collected) (r : Reply)
      (unseen : List Outcome → List ℕ) → Feeds m d p job (at_step (phase.DroppingText a part b) begun x) unseen
      → StepsTo m (event.Call d (call.AggDrop a)) r n
      → Comes m d p job (at_step (phase.DroppingText a part b) begun x) unseen r n
  drops_text m n d p job begun a part b x r unseen f step =
      let now = made_still m n d job begun a part b x r step f.holds.drops f.holds.apart f.holds.differ in
      inl (goes steps m n d p job (at_step (phase.DroppingText a part b) begun x)
      (at_step (phase.DroppingPart part b) begun x) unseen [] (call.AggDrop a) r f step refl refl refl tt
      (record {
        is_readable = now.0;
        piece = now.1;
        no_text = f.holds.drops.no_text;
        part_apart = f.holds.drops.part_apart;
        made_apart = f.holds.drops.made_apart;
        differ = f.holds.drops.differ;
      }) now.2)

  pub drops_part : (m n : State) (d p : ℕ) (job : Task) (begun part b : ℕ) (x : Collected) (r : Reply)
      (unseen : List Outcome → List ℕ) → Feeds m d p job (at_step (phase.DroppingPart part b) begun x) unseen
      → StepsTo m (event.Call d (call.AggDrop part)) r n
      → Comes m d p job (at_step (phase.DroppingPart part b) begun x) unseen r n
  drops_part m n d p job begun part b x r unseen f step =
      let now = made_still m n d job begun part part b x r step f.holds f.holds.part_apart f.holds.differ in
      let ready = interleaves n d job begun b x now.0 now.1 f.holds.no_text f.holds.made_apart in
      inl (goes steps m n d p job (at_step (phase.DroppingPart part b) begun x) (interleave_on begun x b) unseen []
      (call.AggDrop part) r f step refl refl refl ready.0 ready.1 (λ os. ready.2 os ∙ now.2 os))
