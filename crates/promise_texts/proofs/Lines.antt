-- A valid stream's own line says that stream.
-- Assumes nothing.
use Prim.Native.Nat.{ℕ, zero, suc, ◌+◌, ◌-◌, ◌≤◌, ◌<◌}
use native.Mathlib.Omega.{arith}
use mathlib.Core.Path.{◌≡◌, refl, sym, ap, ap₂, ◌∙◌}
use mathlib.Core.Bool.{true, false}
use mathlib.Core.List.{List, [], ◌∷◌, ◌++◌, append_assoc, append-nil}
use lib.ListN.{length, take, set, replicate, length-append, length-take}
use lib.Seq.{set-append_seam, append_snoc}
use lib.Dec.{leb, eqb}
use borrow.Author.Tests.{le-leb, lt-leb, lt-ltb, ne_eqb, leb-true}
use Rattle.laws.specs.Lists.{All, flat, scan}
use Rattle.laws.proofs.Sums.{by_test, and_parts}
use Rattle.rules.specs.declared.Tuple.{Tuple}
use Rattle.rules.specs.declared.Tuple.TheVariants.{Once, Every}
use Rattle.rules.specs.declared.TuplePlace.{TuplePlace}
use Rattle.rules.specs.declared.Stage.{Stage}
use Rattle.rules.specs.declared.Stream.{Stream}
use Rattle.rules.specs.Streams.{no_stage, no_tuple, offset, offset_at, stages_of, tuples_of, tuple_ok, tuples_ok}
use Rattle.rules.specs.Sheet.{stream_of}
use Rattle.rules.specs.Valid.{Between, ValidCycle, ValidPlace, ValidStage, ValidStream, FirstZero}
use Rattle.rules.proofs.Valid.{valid_place, valid_stream}
use Rattle.sheet_carried.proofs.Whole.{stream_holds, whole_stream}
use Rattle.ascii.specs.Decimal.{letters, decimal_of}
use Rattle.ascii.specs.Same.{same}
use Rattle.std.specs.Prelude.{Option, Result, Ok, Some}
use Rattle.text_line.specs.declared.Fault.{Fault}
use Rattle.text_line.specs.declared.Said.{Said}
use Rattle.text_line.specs.declared.Said.TheVariants.{Stream as IsStream}
use Rattle.text_line.specs.Lines.{lead, digits, stage_text, tuple_text, place_text, stages_text, limit_text, version_text, by_field, needed, leads, by_stage, space_at, cost_at, pair_at, staged, most_stages, stages_at, every_at, tuple_at, tuples_at, added, limit_at, deadline_at, line_read}
use Rattle.text_line.specs.Lines as lines
use Rattle.promise_texts.specs.Returns.{LineReturns}
use Rattle.promise_texts.proofs.Fields.{starts, field_here, starts_not, field_not}

-- what a line says whose stream is read so
abbrev pub says : Result Stream Fault → Result (Option Said) Fault
says r = leads r (λ s. Ok (Some (IsStream s)))

-- ---- a tuple

at_sign : (a : ℕ) (rest : List ℕ) → digits (letters "@" ++ (decimal_of a ++ rest)) ≡ []
unfolding lead
at_sign a rest = refl

module _ (low high : ℕ) (rest : List ℕ) (stop : digits rest ≡ []) (small : high ≤ 100000) where
  tuple_here : (t : Tuple) (pre l : List ℕ) → low ≤ offset t → offset t ≤ high → ValidCycle t → l ≡ pre ++ (tuple_text t ++ rest)
      → tuple_at low high l (length pre) ≡ Ok (t, length (pre ++ tuple_text t))
  unfolding tuple_at by_field needed leads every_at lines.offset_at
  tuple_here (Once a) pre l h g c e = rw (field_here low high a rest stop h g (omega arith) (letters " once@") pre l e)
  tuple_here (Every z a) pre l h g c e =
      let once : List ℕ = letters "@" ++ (decimal_of a ++ rest) in
      let here : l ≡ pre ++ (letters " every " ++ (decimal_of z ++ once)) = e ∙ ap (λ (w : List ℕ). pre ++ w) (simp append_assoc) in
      let from : List ℕ = pre ++ (letters " every " ++ decimal_of z) in
      let behind : l ≡ from ++ once = here ∙ simp append_assoc in
      let end : from ++ (letters "@" ++ decimal_of a) ≡ pre ++ tuple_text (Every z a) = simp append_assoc in
      rw (
        field_not (letters " once@") pre (letters " every " ++ (decimal_of z ++ once)) l here refl low high,
        field_here 1 1000000 z once (at_sign a rest) c.low c.high (omega (arith, c.high)) (letters " every ") pre l here,
        field_here low high a rest stop h g (omega arith) (letters "@") from l behind,
        end,
      )

-- ---- the tuples

-- the text of tuples begins with no digit
no_digit : (ts : List TuplePlace) → digits (flat place_text ts) ≡ []
unfolding lead flat
no_digit [] = refl
no_digit (p ∷ ts) = first p.tuple
  where
    first : (t : Tuple) → digits (tuple_text t ++ flat place_text ts) ≡ []
    first (Once a) = refl
    first (Every z a) = refl

-- nor does it begin with a jitter
no_jitter : (ts : List TuplePlace) → same (take 7 (flat place_text ts)) (letters " jitter") ≡ false
unfolding flat
no_jitter [] = refl
no_jitter (p ∷ ts) = first p.tuple
  where
    first : (t : Tuple) → same (take 7 (tuple_text t ++ flat place_text ts)) (letters " jitter") ≡ false
    first (Once a) = refl
    first (Every z a) = refl

some_text : (t : Tuple) → 1 ≤ length (tuple_text t)
some_text (Once a) = omega arith
some_text (Every z a) = omega arith

abbrev FirstAtMost : ℕ → List TuplePlace → Type 0
FirstAtMost high [] = Unit {0}
FirstAtMost high (p ∷ ps) = offset_at p ≤ high

-- one place more in use
place_more : {A : Type 0} (none : A) (l : List A) (p : A) → length l < 4 → set (l ++ replicate (4 - length l) none) (length l) p ≡ (l ++ (p ∷ [])) ++ replicate (4 - length (l ++ (p ∷ []))) none
place_more none l p h =
    let room : 4 - length l ≡ suc (3 - length l) = omega arith in
    let rest : 4 - length (l ++ (p ∷ [])) ≡ 3 - length l = omega (arith, length-append l (p ∷ [])) in
    rw (rest, room) (set-append_seam l none (replicate (3 - length l) none) p ∙ sym (append_snoc l p (replicate (3 - length l) none)))

-- one tuple, and one stage, more behind those of a stream
module _ (gs : List Stage) (d : ℕ) (ts : List TuplePlace) where
  pub added_more : (p : TuplePlace) → length ts < 4 → added (stream_of gs d ts) p.tuple ≡ stream_of gs d (ts ++ (p ∷ []))
  unfolding added
  added_more p h =
      let size : length (ts ++ (p ∷ [])) ≡ length ts + 1 = length-append ts (p ∷ []) in
      rw (lt-ltb (length ts) 4 h)
      (ap₂ (λ (n : ℕ) (l : List TuplePlace). record { depth = length gs; stages = gs ++ replicate (4 - length gs) no_stage; deadline = d; count = n; tuples = l }) (sym size) (place_more no_tuple ts p h))

  pub staged_more : (g : Stage) → length gs < 4 → staged (stream_of gs d ts) g ≡ stream_of (gs ++ (g ∷ [])) d ts
  unfolding staged
  staged_more g h =
      let size : length (gs ++ (g ∷ [])) ≡ length gs + 1 = length-append gs (g ∷ []) in
      rw (lt-ltb (length gs) 4 h)
      (ap₂ (λ (n : ℕ) (l : List Stage). record { depth = n; stages = l; deadline = d; count = length ts; tuples = ts ++ replicate (4 - length ts) no_tuple }) (sym size) (place_more no_stage gs g h))

low_of : (before : ℕ) (p : TuplePlace) → tuple_ok before p ≡ true → before ≤ offset_at p
unfolding tuple_ok
low_of before p e = leb-true before (offset_at p) (and_parts (leb before (offset_at p)) _ e).0

line_ends : (gs : List Stage) (d : ℕ) (done : List TuplePlace) (low high : ℕ) (l : List ℕ) (at m : ℕ) → length l ≤ at → (length done ≡ 0 → ⊥)
    → tuples_at m (stream_of gs d done) low high l at ≡ Ok (stream_of gs d done)
unfolding tuples_at
line_ends gs d done low high l at zero all some = rw (le-leb (length l) at all, ne_eqb (length done) 0 some)
line_ends gs d done low high l at (suc m) all some = rw (le-leb (length l) at all, ne_eqb (length done) 0 some)

first_below : (before : ℕ) (qs : List TuplePlace) → scan tuple_ok offset_at before qs ≡ true → FirstAtMost 100000 qs
unfolding scan
first_below before [] y = tt
first_below before (q ∷ qs) y = (valid_place before q (and_parts (tuple_ok before q) (scan tuple_ok offset_at (offset_at q) qs) y).0).offset

module _ (gs : List Stage) (d : ℕ) (l : List ℕ) where
  tuples_here : (ts done : List TuplePlace) (n low high : ℕ) (pre : List ℕ) → scan tuple_ok offset_at low ts ≡ true → FirstAtMost high ts → high ≤ 100000
      → length ts ≤ n → length done + length ts ≤ 4 → 1 ≤ length done + length ts → l ≡ pre ++ flat place_text ts
      → tuples_at n (stream_of gs d done) low high l (length pre) ≡ Ok (stream_of gs d (done ++ ts))
  unfolding tuples_at leads flat scan
  tuples_here [] done n low high pre ok f k a b c e =
      let all : length l ≤ length pre = omega (arith, ap length e, length-append pre []) in
      let some : length done ≡ 0 → ⊥ = λ z. omega arith in
      line_ends gs d done low high l (length pre) n all some ∙ ap (λ (ts : List TuplePlace). Ok (stream_of gs d ts)) (sym (append-nil done))
  tuples_here (p ∷ ts) done zero low high pre ok f k a b c e = absurd (omega arith)
  tuples_here (p ∷ ts) done (suc n) low high pre ok f k a b c e =
      let u : (tuple_ok low p ≡ true) × (scan tuple_ok offset_at (offset_at p) ts ≡ true) = and_parts (tuple_ok low p) (scan tuple_ok offset_at (offset_at p) ts) ok in
      let v : ValidPlace p = valid_place low p u.0 in
      let more : length pre < length l = omega (arith, ap length e, length-append pre (place_text p ++ flat place_text ts), length-append (place_text p) (flat place_text ts), some_text p.tuple) in
      let next : l ≡ (pre ++ place_text p) ++ flat place_text ts = e ∙ sym (append_assoc pre (place_text p) (flat place_text ts)) in
      let size : length (done ++ (p ∷ [])) ≡ length done + 1 = length-append done (p ∷ []) in
      rw (
        lt-leb (length l) (length pre) more,
        tuple_here low high (flat place_text ts) (no_digit ts) k p.tuple pre l (low_of low p u.0) f v.cycle e,
        added_more gs d done p (omega arith),
      )
      (tuples_here ts (done ++ (p ∷ [])) n (offset_at p) 100000 (pre ++ place_text p) u.1 (first_below (offset_at p) ts u.1) (omega arith) (omega arith) (omega arith) (omega arith) next
      ∙ ap (λ (qs : List TuplePlace). Ok (stream_of gs d qs)) (append_snoc done p ts))

-- ---- a stage

pair_here : (g : Stage) (pre l rest : List ℕ) → ValidStage g → l ≡ pre ++ (stage_text g ++ rest) → pair_at l (length pre) ≡ Ok (Some (g, length (pre ++ stage_text g)))
unfolding pair_at cost_at space_at by_field needed leads lead
pair_here g pre l rest v e =
    let T : List ℕ = letters "task " ++ decimal_of g.task in
    let C : List ℕ = letters " cost " ++ decimal_of g.cost in
    let behind : List ℕ = letters " " ++ rest in
    let here : l ≡ pre ++ (letters "task " ++ (decimal_of g.task ++ (C ++ behind))) = e ∙ ap (λ (w : List ℕ). pre ++ w) (simp append_assoc) in
    let next : l ≡ (pre ++ T) ++ (letters " cost " ++ (decimal_of g.cost ++ behind)) = here ∙ simp append_assoc in
    let last : l ≡ ((pre ++ T) ++ C) ++ (letters " " ++ rest) = next ∙ simp append_assoc in
    let end : length (pre ++ stage_text g) ≡ length ((pre ++ T) ++ C) + 1 =
    omega (arith, length-append pre (stage_text g), length-append (T ++ C) (letters " "), length-append T C, length-append (pre ++ T) C, length-append pre T) in
    rw (
      field_here 0 15 g.task (C ++ behind) refl (omega arith) v.task (omega (arith, v.task)) (letters "task ") pre l here,
      field_here 1 65535 g.cost behind refl v.cost.low v.cost.high (omega (arith, v.cost.high)) (letters " cost ") (pre ++ T) l next,
      starts (letters " ") ((pre ++ T) ++ C) rest l last,
      end,
    )

-- ---- the stages

module _ (version : ℕ) (l rest : List ℕ) (other : same (take 5 rest) (letters "task ") ≡ false) where
  -- no stage stands here
  stages_over : (done : List Stage) (n : ℕ) (pre : List ℕ) → (length done ≡ 0 → ⊥) → l ≡ pre ++ rest
      → stages_at version n (stream_of done 0 []) l (length pre) ≡ deadline_at (stream_of done 0 []) l (length pre)
  unfolding stages_at by_stage pair_at by_field
  stages_over done zero pre some e = rw (starts_not (letters "task ") pre rest l e other, ne_eqb (length done) 0 some)
  stages_over done (suc n) pre some e = rw (field_not (letters "task ") pre rest l e other 0 15, ne_eqb (length done) 0 some)

  -- one stage more
  one_more : (s : Stream) (n at : ℕ) (g : Stage) (end : ℕ) (more : Stream) → pair_at l at ≡ Ok (Some (g, end)) → staged s g ≡ more → stages_at version (suc n) s l at ≡ stages_at version n more l end
  unfolding stages_at by_stage
  one_more s n at g end more p q = rw (p, q)

  stages_here : (gs done : List Stage) (n : ℕ) (pre : List ℕ) → All ValidStage gs → length gs ≤ n → length done + length gs ≤ 4 → 1 ≤ length done + length gs
      → l ≡ pre ++ (flat stage_text gs ++ rest)
      → stages_at version n (stream_of done 0 []) l (length pre) ≡ deadline_at (stream_of (done ++ gs) 0 []) l (length (pre ++ flat stage_text gs))
  unfolding flat
  stages_here [] done n pre v a b c e =
      let some : length done ≡ 0 → ⊥ = λ z. omega arith in
      stages_over done n pre some e
      ∙ ap₂ (λ (gs : List Stage) (w : List ℕ). deadline_at (stream_of gs 0 []) l (length w)) (sym (append-nil done)) (sym (append-nil pre))
  stages_here (g ∷ gs) done zero pre v a b c e = absurd (omega arith)
  stages_here (g ∷ gs) done (suc n) pre v a b c e =
      let here : l ≡ pre ++ (stage_text g ++ (flat stage_text gs ++ rest)) = e ∙ ap (λ (w : List ℕ). pre ++ w) (append_assoc (stage_text g) (flat stage_text gs) rest) in
      let next : l ≡ (pre ++ stage_text g) ++ (flat stage_text gs ++ rest) = here ∙ sym (append_assoc pre (stage_text g) (flat stage_text gs ++ rest)) in
      let size : length (done ++ (g ∷ [])) ≡ length done + 1 = length-append done (g ∷ []) in
      one_more (stream_of done 0 []) n (length pre) g (length (pre ++ stage_text g)) (stream_of (done ++ (g ∷ [])) 0 []) (pair_here g pre l (flat stage_text gs ++ rest) v.0 here) (staged_more done 0 [] g (omega arith))
      ∙ stages_here gs (done ++ (g ∷ [])) n (pre ++ stage_text g) v.1 (omega arith) (omega arith) (omega arith) next
      ∙ ap₂ (λ (hs : List Stage) (w : List ℕ). deadline_at (stream_of hs 0 []) l (length w)) (append_snoc done g gs) (append_assoc pre (stage_text g) (flat stage_text gs))

-- ---- the line up to the deadline

most_fits : (version n : ℕ) → n ≤ most_stages version → n ≤ 4
most_fits version n h = by_test (eqb version 1) (λ e. let z : n ≤ 1 = rw e at h in omega arith) (λ e. rw e at h)

module _ (version : ℕ) (d : ℕ) (rest : List ℕ) (stop : digits rest ≡ []) (f : Between 1 d 200000) where
  pub front_here : (gs : List Stage) (l : List ℕ) → Between 1 (length gs) (most_stages version) → All ValidStage gs
      → l ≡ flat stage_text gs ++ (letters "deadline " ++ (decimal_of d ++ rest))
      → line_read version l ≡ says (limit_at (stream_of gs d []) l (length (flat stage_text gs ++ (letters "deadline " ++ decimal_of d))))
  unfolding line_read flat deadline_at by_field needed leads
  front_here [] l k v e = absurd (let z : 1 ≤ 0 = k.low in omega arith)
  front_here (g ∷ gs) l k v e =
      let few : length (g ∷ gs) ≤ 4 = most_fits version (length (g ∷ gs)) k.high in
      let behind : List ℕ = letters "deadline " ++ (decimal_of d ++ rest) in
      let some : length l ≡ 0 → ⊥ = λ z. omega (arith, ap length e, length-append (flat stage_text (g ∷ gs)) behind) in
      let task : same l version_text ≡ false = ap (λ (w : List ℕ). same w version_text) e in
      rw (ne_eqb (length l) 0 some, task)
      (ap says (stages_here version l behind refl (g ∷ gs) [] (most_stages version) [] v k.high (omega arith) (omega arith) e
      ∙ rw (field_here 1 200000 d rest stop f.low f.high (omega (arith, f.high)) (letters "deadline ") (flat stage_text (g ∷ gs)) l e)))

-- ---- the whole line

first_zero : (ts : List TuplePlace) → FirstZero ts → FirstAtMost 0 ts
first_zero [] f = tt
first_zero (p ∷ ts) f = omega arith

pub line_returns : LineReturns
unfolding LineReturns stages_text limit_text limit_at tuples_ok leads
line_returns version s four ok deep =
    let v : ValidStream s = valid_stream s ok in
    let A : List ℕ = flat stage_text (stages_of s) in
    let B : List ℕ = letters "deadline " ++ decimal_of s.deadline in
    let D : List ℕ = flat place_text (tuples_of s) in
    let l : List ℕ = A ++ (B ++ D) in
    let before : List ℕ = A ++ B in
    let here : l ≡ A ++ (letters "deadline " ++ (decimal_of s.deadline ++ D)) = ap (λ (w : List ℕ). A ++ w) (append_assoc (letters "deadline ") (decimal_of s.deadline) D) in
    let back : l ≡ before ++ D = sym (append_assoc A B D) in
    let size : length (tuples_of s) ≤ 4 = omega (arith, length-take s.count s.tuples, v.count.high) in
    let some : 1 ≤ length (tuples_of s) = omega (arith, length-take s.count s.tuples, v.count.low, four.tuples) in
    let depth : length (stages_of s) ≡ s.depth = omega (arith, length-take s.depth s.stages, v.depth.high, four.stages) in
    let stages : Between 1 (length (stages_of s)) (most_stages version) = record { low = omega (arith, v.depth.low); high = omega arith } in
    front_here version s.deadline D (no_digit (tuples_of s)) v.deadline (stages_of s) l stages v.stages here
    ∙ rw (starts_not (letters " jitter") before D l back (no_jitter (tuples_of s)))
    (ap says (tuples_here (stages_of s) s.deadline l (tuples_of s) [] 4 0 0 before v.order (first_zero (tuples_of s) v.first) (omega arith) size (omega arith) (omega arith) back
    ∙ ap Ok (whole_stream s (stream_holds s v four))))
