-- What taking fields at a place of a recording tells of the bits there: a law for each way out.
-- Assumes nothing.
use Prim.Native.Nat.{ℕ, zero, suc, ◌+◌, ◌-◌, ◌*◌, ◌/◌, ◌%◌, ◌^◌, ◌≤◌, ◌<◌, min}
use mathlib.Core.Bool.{Bool, true, false, ◌&&◌}
use mathlib.Core.List.{List, [], ◌∷◌}
use mathlib.Core.Path.{◌≡◌, refl, ap, ap₂, sym, ◌∙◌}
use native.Mathlib.Omega.{arith}
use borrow.Author.Tests.{leb-true, leb-false, le-leb, lt-leb, lt-ltb, le-ltb, ltb-true, ltb-false, eq-eqb, ne_eqb}
use lib.ListN.{length, take, drop, length-drop}
use lib.Seq.{take_all, drop-drop}
use lib.Dec.{ltb, leb, eqb}
use Rattle.std.specs.List.{list_all}
use Rattle.laws.specs.Bits.{onto, value, bits}
use Rattle.laws.proofs.Sums.{by_test, and_parts}
use Rattle.laws.proofs.Fields.{bits_length}
use Rattle.rules.specs.declared.State.{State}
use Rattle.rules.specs.declared.Call.{Call}
use Rattle.rules.specs.declared.Call.TheVariants.{Posts, Units}
use Rattle.rules.specs.declared.CallResult.{CallResult}
use Rattle.std.specs.Prelude.{Result, Ok, Err, Option, Some, None}
use Rattle.rules.specs.declared.Refusal.{Refusal}
use Rattle.rules.specs.declared.Refusal.TheVariants.{StopsEarly, Trailing, IllFormed}
use Rattle.rules.specs.declared.ReplayResult.{ReplayResult}
use Rattle.rules.specs.declared.ReplayStart.{ReplayStart}
use Rattle.rules.specs.declared.Party.{Party}
use Rattle.rules.specs.declared.Set.{Set}
use Rattle.rules.specs.Streams.{empty_set, valid, stream_unused, stage_unused, tuple_unused, version_ok}
use Rattle.rules.specs.declared.Place.{Place}
use Rattle.rules.specs.declared.Places.{Places}
use Rattle.rules.specs.declared.ReadResult.{ReadResult}
use Rattle.rules.specs.declared.StartResult.{StartResult}
use Rattle.rules.specs.Sheet.{is_zero, read_of}
use Rattle.rules.specs.States.{well_formed}
use Rattle.rules.specs.Steps.{fresh, start_of, start_for, call_of}
use Rattle.rules.specs.Recordings.{bit_at, begun_as, call_bits, place_in, place_after, end_mark, post_mark, kind_mark, mark_of, replay_by, replay_step, replay_start, begun_by}
use Rattle.bits.specs.declared.Gathered.{Gathered}
use Rattle.bits.specs.declared.NotTaken.{NotTaken}
use Rattle.bits.specs.declared.NotTaken.TheVariants.{Missing}
use Rattle.bits.specs.Places.{field_at, gather_of, take_of}
use Rattle.record_call.proofs.Widths.{Inside, inside, call_width}
use Rattle.replay_step.specs.Steps.{Behind}

-- ---- bits that stand for 0 are zero bits

onto_some : (a : ℕ) (bs : List ℕ) → 0 < a → 0 < onto a bs
unfolding onto
onto_some a [] h = h
onto_some a (b ∷ bs) h = onto_some (a * 2 + b) bs (omega arith)

pub value_zero : (bs : List ℕ) → eqb (value bs) 0 ≡ list_all is_zero bs
unfolding onto
value_zero [] = refl
value_zero (zero ∷ bs) = value_zero bs
value_zero (suc b ∷ bs) = rw (ne_eqb (suc b) 0 (λ e. omega arith))
    (ne_eqb (onto (0 * 2 + suc b) bs) 0 (λ e. let h : 0 < onto (0 * 2 + suc b) bs = onto_some (0 * 2 + suc b) bs (omega arith) in omega arith))

-- ---- a field of w bits at a place

module _ (s : List ℕ) (at : ℕ) where
  abbrev rest : List ℕ
  rest = drop at (bits s)

  pub rest_length : length rest ≡ 8 * length s - at
  rest_length = length-drop at (bits s) ∙ ap (λ (n : ℕ). n - at) (bits_length s)

  -- as a whole, or missing
  module _ (w : ℕ) (small : w ≤ 64) (t : Result ℕ NotTaken) (e : t ≡ take_of s at w) where
    pub taken_field : (v : ℕ) → t ≡ Ok v → (w ≤ length rest) × (v ≡ value (take w rest))
    unfolding take_of field_at
    taken_field v f =
        by_test (leb w (8 * length s - at))
        (λ y. let q : ◌≡◌ {A = Result ℕ NotTaken} (Ok v) (Ok (value (take w rest))) = sym f ∙ e ∙ rw (le-leb w 64 small, y) in (omega (arith, leb-true w (8 * length s - at) y, rest_length), cc))
        (λ y. let q : ◌≡◌ {A = Result ℕ NotTaken} (Ok v) (Err Missing) = sym f ∙ e ∙ rw (le-leb w 64 small, y) in absurd (let z : ◌≡◌ {A = ℕ} 0 1 = cc in omega arith))

    pub taken_missing : ((v : ℕ) → t ≡ Ok v → ⊥) → length rest < w
    unfolding take_of field_at
    taken_missing n =
        by_test (leb w (8 * length s - at))
        (λ y. absurd (n (value (take w rest)) (e ∙ rw (le-leb w 64 small, y))))
        (λ y. omega (arith, leb-false w (8 * length s - at) y, rest_length))

  -- ---- the end: fewer than 8 bits, all zero

  module _ (g : Gathered) (e : g ≡ gather_of s at 8) where
    got_is : g.got ≡ min 8 (length rest)
    unfolding gather_of
    got_is = ap (λ (g : Gathered). g.got) e ∙ omega (arith, rest_length)

    value_is : g.value ≡ value (take g.got rest)
    unfolding gather_of field_at
    value_is = ap (λ (g : Gathered). g.value) e ∙ ap (λ (n : ℕ). value (take n rest)) (sym (ap (λ (g : Gathered). g.got) e))

    end_same : (ltb g.got 8 && eqb g.value 0) ≡ (ltb (length rest) 8 && list_all is_zero rest)
    end_same =
        by_test (ltb (length rest) 8)
        (λ y. let h : length rest < 8 = ltb-true (length rest) 8 y in
        rw (y, lt-ltb g.got 8 (omega (arith, got_is)))
        (ap (λ (n : ℕ). eqb n 0) (value_is ∙ ap value (take_all g.got rest (omega (arith, got_is)))) ∙ value_zero rest))
        (λ y. rw (y, le-ltb g.got 8 (omega (arith, got_is, ltb-false (length rest) 8 y))))

    pub end_yes : (ltb g.got 8 && eqb g.value 0) ≡ true → (Ok None) ≡ end_mark rest
    end_yes f = rw (sym end_same ∙ f)

    pub end_no : (ltb g.got 8 && eqb g.value 0) ≡ false → Err Trailing ≡ end_mark rest
    end_no f = rw (sym end_same ∙ f)

  -- ---- a post

  module _ (t : Result ℕ NotTaken) (e : t ≡ take_of s at 4) where
    pub post_made : (k n : ℕ) → t ≡ Ok k → n ≡ k → Ok (Some (Posts n)) ≡ post_mark rest
    post_made k n f q = let r = taken_field 4 (omega arith) t e k f in rw (le-leb 4 (length rest) r.0, q, r.1)

    pub post_cut : ((v : ℕ) → t ≡ Ok v → ⊥) → Err StopsEarly ≡ post_mark rest
    post_cut n = rw (lt-leb 4 (length rest) (taken_missing 4 (omega arith) t e n))

  -- ---- a kind

  module _ (t : Result ℕ NotTaken) (e : t ≡ take_of s at 2) where
    pub kind_made : (kind : ℕ) (m : Result (Option Call) Refusal) → t ≡ Ok kind → m ≡ kind_mark kind (drop (at + 2) (bits s)) → m ≡ mark_of rest
    unfolding mark_of
    kind_made kind m f q = let r = taken_field 2 (omega arith) t e kind f in rw (le-leb 2 (length rest) r.0, sym r.1, drop-drop 2 at (bits s)) q

    pub kind_cut : ((v : ℕ) → t ≡ Ok v → ⊥) → Err StopsEarly ≡ mark_of rest
    unfolding mark_of
    kind_cut n = rw (lt-leb 2 (length rest) (taken_missing 2 (omega arith) t e n))

-- the four kinds
module _ (bs : List ℕ) (kind : ℕ) where
  pub is_post : (m : Result (Option Call) Refusal) → kind ≡ 0 → m ≡ post_mark bs → m ≡ kind_mark kind bs
  is_post m e f = rw (eq-eqb kind 0 e) f

  pub is_unit_lem : (kind ≡ 0 → ⊥) → kind ≡ 1 → Ok (Some (Units false)) ≡ kind_mark kind bs
  is_unit_lem a e = rw (ne_eqb kind 0 a, eq-eqb kind 1 e)

  pub is_done : (kind ≡ 0 → ⊥) → (kind ≡ 1 → ⊥) → kind ≡ 2 → Ok (Some (Units true)) ≡ kind_mark kind bs
  is_done a b e = rw (ne_eqb kind 0 a, ne_eqb kind 1 b, eq-eqb kind 2 e)

  pub is_end : (m : Result (Option Call) Refusal) → (kind ≡ 0 → ⊥) → (kind ≡ 1 → ⊥) → (kind ≡ 2 → ⊥) → m ≡ end_mark bs → m ≡ kind_mark kind bs
  is_end m a b c f = rw (ne_eqb kind 0 a, ne_eqb kind 1 b, ne_eqb kind 2 c) f

-- bits that make a call are at least two
pub makes_two : (bs : List ℕ) (c : Call) → mark_of bs ≡ Ok (Some c) → 2 ≤ length bs
unfolding mark_of
makes_two bs c e = by_test (leb 2 (length bs)) (λ y. leb-true 2 (length bs) y)
    (λ y. let q : Err StopsEarly ≡ Ok (Some c) = rw y at e in absurd (let z : ◌≡◌ {A = ℕ} 0 1 = cc in omega arith))

-- ---- the place

pub inside_by : (s : List ℕ) (p : Place) (a b : Bool) → b ≡ place_in s p → (a && b) ≡ true → Inside s p
inside_by s p a b e g = inside s p (sym e ∙ (and_parts a b g).1)

-- where a call is made, its byte is one of the recording's
pub byte_there : (s : List ℕ) (p : Place) (c : Call) → p.bit < 8 → mark_of (drop (bit_at p) (bits s)) ≡ Ok (Some c) → p.byte < length s
byte_there s p c h e = omega (arith, makes_two (drop (bit_at p) (bits s)) c e, rest_length s (bit_at p))

-- ---- the step

pub behind_is : (s : State) (c : Call) (p q : Place) (w : ℕ) (r : CallResult) → p.bit < 8 → p.byte + 1 < 2 ^ 64 → r ≡ call_of s c → w ≡ length (call_bits c)
    → q.byte ≡ min (p.byte + (p.bit + w) / 8) 18446744073709551615 → q.bit ≡ (p.bit + w) % 8
    → ◌≡◌ {A = ReplayResult} (record { answer = Ok (Some r.answer); state = r.state; place = q }) (Behind s c p)
unfolding place_after
behind_is s c p q w r h g e f eb ei =
    let there : ◌≡◌ {A = Place} q (record { byte = p.byte + (p.bit + length (call_bits c)) / 8; bit = (p.bit + length (call_bits c)) % 8 }) = ap₂ (λ (a b : ℕ). record { byte = a; bit = b }) (omega (arith, call_width c)) (ei ∙ ap (λ (n : ℕ). (p.bit + n) % 8) f) in
    rw (e, there)

module _ (s : State) (recording : List ℕ) (p : Place) where
  abbrev here : List ℕ
  here = drop (bit_at p) (bits recording)

  pub no_step : (a b : Bool) → a ≡ well_formed s → b ≡ place_in recording p → (a && b) ≡ false
      → ◌≡◌ {A = ReplayResult} (record { answer = Err IllFormed; state = s; place = p }) (replay_step s recording p)
  unfolding replay_step
  no_step a b e f g = rw (← e, ← f, g)

  module _ (a b : Bool) (e : a ≡ well_formed s) (f : b ≡ place_in recording p) (g : (a && b) ≡ true) (m : Result (Option Call) Refusal) (h : m ≡ mark_of here) where
    pub a_step : (r : ReplayResult) → r ≡ replay_by s p m → r ≡ replay_step s recording p
    unfolding replay_step
    a_step r q = rw (← e, ← f, g, ← h) q

-- a start's answer goes on as it is
pub as_begun : (a : Result (Unit {0}) Refusal) → a ≡ begun_as a
as_begun (Ok tt) = refl
as_begun (Err why) = refl

pub begins : (sheet : List ℕ) (owners : List Party) (places : Places) (r : ReadResult) (b : StartResult) (q : ReplayStart) → r ≡ read_of sheet → b ≡ start_for r.set owners places → q ≡ begun_by r.answer b
    → q ≡ replay_start sheet owners places
unfolding replay_start
begins sheet owners places r b q e f g = g ∙ rw (f, e)

-- the start of the empty set
pub empty_start : (r : StartResult) (x : Set) → x ≡ empty_set → r ≡ start_of x → r.state ≡ fresh empty_set
unfolding start_of valid stream_unused stage_unused tuple_unused version_ok
empty_start r x e f = rw (f, e)
