-- Of a string that is longer than any sheet the first 503 bytes decide: the fields of a full sheet take 4,009 bits, eight bits behind
-- them are a further byte, and no bit behind those is looked at.
-- Assumes nothing.
use Prim.Native.Nat.{ℕ, zero, suc, ◌+◌, ◌*◌, ◌^◌, ◌≤◌, ◌<◌}
use mathlib.Core.List.{List, [], ◌∷◌, ◌++◌}
use mathlib.Core.Path.{◌≡◌, refl, sym, ap, ap₂, ◌∙◌}
use mathlib.Core.Bool.{Bool, true, false, cond, ◌&&◌}
use native.Mathlib.Omega.{arith}
use lib.ListN.{length, take, drop, length-append, length-drop, take-append-drop}
use lib.Seq.{drop-append-le, length-take-le, take_all, take-append-le}
use lib.Dec.{eqb, leb}
use borrow.Author.Tests.{le-leb, le-ltb, leb-false, leb-true}
use Rattle.std.specs.List.{list_all}
use Rattle.laws.specs.Lists.{within}
use Rattle.laws.specs.Bits.{bits, value}
use Rattle.laws.proofs.Sums.{by_test}
use Rattle.laws.proofs.Fields.{AreBits, IsBit, all_drop, bits_append, bits_bits, bits_length, taken_lt}
use Rattle.rules.specs.declared.TuplePlace.{TuplePlace}
use Rattle.rules.specs.declared.Stage.{Stage}
use Rattle.rules.specs.declared.Stream.{Stream}
use Rattle.rules.specs.declared.Refusal.TheVariants.{BitsMissing, Leftover}
use Rattle.rules.specs.declared.ReadResult.{ReadResult}
use Rattle.std.specs.Prelude.{Ok}
use Rattle.rules.specs.Sheet.{field, is_zero, no_set, read_bits, read_deadline, read_end, read_head, read_of, read_stages, read_stream, read_streams, read_tuples, set_of, stream_of, tuple_of}
use Rattle.sheet_write.specs.Long.{LongSheet, longest_sheet}
use Rattle.sheet_write.proofs.Back.{cost_next, count_next, cycle_next, deadline_next, head_next, offset_next, read_head_by, task_next, tuples_next, version_next}

-- a test that stands on both sides
cond_same : (b : Bool) (r s other : ReadResult) → (b ≡ true → r ≡ s) → cond b r other ≡ cond b s other
cond_same true r s other h = h refl
cond_same false r s other h = refl

-- a further byte is left over
end_over : (version : ℕ) (ss : List Stream) (bs : List ℕ) → 8 ≤ length bs → read_end version ss bs ≡ no_set Leftover
unfolding read_end
end_over version ss bs l =
    ap (λ (t : Bool). cond (t && list_all is_zero bs) (record { answer = Ok tt; set = set_of version ss }) (no_set Leftover)) (le-ltb (length bs) 8 l)

-- q is what stands behind
module _ (q : List ℕ) where
  -- with m bits there, q does not matter
  abbrev Same : ℕ → (List ℕ → ReadResult) → Type 0
  Same m next = (bs : List ℕ) → AreBits bs → m ≤ length bs → next (bs ++ q) ≡ next bs

  field_same : (w m : ℕ) (next : ℕ → List ℕ → ReadResult) → ((v : ℕ) → v < 2 ^ w → Same m (next v)) → Same (w + m) (λ bs. field w bs next)
  field_same w m next h bs b l =
      let k : w ≤ length bs = omega arith in
      ap (λ (t : Bool). cond t (next (value (take w (bs ++ q))) (drop w (bs ++ q))) (no_set BitsMissing)) (le-leb w (length (bs ++ q)) (omega (arith, length-append bs q)))
      ∙ ap₂ (λ (x y : List ℕ). next (value x) y) (take-append-le w bs q k) (drop-append-le w bs q k)
      ∙ h (value (take w bs)) (taken_lt w bs b k) (drop w bs) (all_drop IsBit w bs b) (omega (arith, length-drop w bs))
      ∙ sym (ap (λ (t : Bool). cond t (next (value (take w bs)) (drop w bs)) (no_set BitsMissing)) (le-leb w (length bs) k))

  -- a tuple takes 37 bits
  tuples_same : (m n low high : ℕ) (ts : List TuplePlace) (next : List TuplePlace → List ℕ → ReadResult) → ((ps : List TuplePlace) → Same m (next ps))
      → Same (37 * n + m) (λ bs. read_tuples n low high ts bs next)
  unfolding read_tuples
  tuples_same m zero low high ts next h bs b l = h ts bs b (omega arith)
  tuples_same m (suc n) low high ts next h bs b l =
      field_same 20 (17 + (37 * n + m)) (cycle_next low high n ts next)
      (λ z _ bs₁ b₁ l₁. cond_same (leb z 1000000) _ _ _
      (λ _. field_same 17 (37 * n + m) (offset_next low high n ts next z)
      (λ a _ bs₂ b₂ l₂. cond_same (within low a high) _ _ _
      (λ _. tuples_same m n a 100000 (ts ++ (tuple_of z a ∷ [])) next h bs₂ b₂ l₂))
      bs₁ b₁ l₁))
      bs b (omega arith)

  -- a stage takes 20
  stages_same : (m n : ℕ) (gs : List Stage) (next : List Stage → List ℕ → ReadResult) → ((hs : List Stage) → Same m (next hs)) → Same (20 * n + m) (λ bs. read_stages n gs bs next)
  unfolding read_stages
  stages_same m zero gs next h bs b l = h gs bs b (omega arith)
  stages_same m (suc n) gs next h bs b l =
      field_same 4 (16 + (20 * n + m)) (task_next n gs next)
      (λ task _ bs₁ b₁ l₁. field_same 16 (20 * n + m) (cost_next n gs next task)
      (λ cost _ bs₂ b₂ l₂. cond_same (within 1 cost 65535) _ _ _
      (λ _. stages_same m n (gs ++ (record { task = task; cost = cost } ∷ [])) next h bs₂ b₂ l₂))
      bs₁ b₁ l₁)
      bs b (omega arith)

  deadline_same : (m : ℕ) (next : ℕ → List ℕ → ReadResult) → ((d : ℕ) → Same m (next d)) → Same (18 + m) (λ bs. read_deadline bs next)
  unfolding read_deadline
  deadline_same m next h bs b l =
      field_same 18 m (deadline_next next) (λ d _ bs₁ b₁ l₁. cond_same (within 1 d 200000) _ _ _ (λ _. h d bs₁ b₁ l₁)) bs b l

  -- a head takes 20, and has four stages at most
  head_same : (m : ℕ) (first : Bool) (next : List Stage → ℕ → List ℕ → ReadResult) → ((gs : List Stage) (d : ℕ) → Same m (next gs d)) → Same (100 + m) (λ bs. read_head_by first bs next)
  head_same m true next h bs b l =
      stages_same (18 + m) 1 [] (λ gs bs₁. read_deadline bs₁ (λ d bs₂. next gs d bs₂)) (λ gs. deadline_same m (λ d bs₂. next gs d bs₂) (h gs)) bs b (omega arith)
  head_same m false next h bs b l =
      deadline_same (82 + m) (λ d bs₁. field 2 bs₁ (λ n bs₂. read_stages (suc n) [] bs₂ (λ gs bs₃. next gs d bs₃)))
      (λ d bs₁ b₁ l₁. field_same 2 (80 + m) (λ n bs₂. read_stages (suc n) [] bs₂ (λ gs bs₃. next gs d bs₃))
      (λ n few bs₂ b₂ l₂. stages_same m (suc n) [] (λ gs bs₃. next gs d bs₃) (λ gs. h gs d) bs₂ b₂ (omega arith))
      bs₁ b₁ (omega arith))
      bs b (omega arith)

  module _ (version : ℕ) where
    -- a stream takes 2 more, and has four tuples at most
    stream_same : (m : ℕ) (next : Stream → List ℕ → ReadResult) → ((s : Stream) → Same m (next s)) → Same (250 + m) (λ bs. read_stream version bs next)
    unfolding read_stream read_head
    stream_same m next h bs b l =
        head_same (150 + m) (eqb version 1) (head_next next)
        (λ gs d bs₁ b₁ l₁. field_same 2 (148 + m) (tuples_next next gs d)
        (λ n few bs₂ b₂ l₂. tuples_same m (suc n) 0 0 [] (λ ts rest. next (stream_of gs d ts) rest)
        (λ ts. h (stream_of gs d ts)) bs₂ b₂ (omega arith))
        bs₁ b₁ (omega arith))
        bs b (omega arith)

    streams_same : (n : ℕ) (ss : List Stream) → Same (250 * n + 8) (read_streams version n ss)
    unfolding read_streams
    streams_same zero ss bs b l = end_over version ss (bs ++ q) (omega (arith, length-append bs q)) ∙ sym (end_over version ss bs (omega arith))
    streams_same (suc n) ss bs b l =
        stream_same (250 * n + 8) (λ s rest. read_streams version n (ss ++ (s ∷ [])) rest) (λ s. streams_same n (ss ++ (s ∷ []))) bs b (omega arith)

  -- 9 bits in front, sixteen streams at most, and the further byte
  bits_same : Same 4017 read_bits
  unfolding read_bits
  bits_same bs b l =
      field_same 4 4013 version_next
      (λ version _ bs₁ b₁ l₁. cond_same (within 1 version 2) _ _ _
      (λ _. field_same 5 4008 (count_next version)
      (λ n _ bs₂ b₂ l₂. cond_same (leb n 16) _ _ _
      (λ e. streams_same version n [] bs₂ b₂ (omega (arith, leb-true n 16 e))))
      bs₁ b₁ (omega arith)))
      bs b (omega arith)

-- as many bytes as hold those bits
first_bytes : (k : ℕ) (l : List ℕ) → 4017 ≤ 8 * k → read_of (take k l) ≡ read_of l
unfolding read_of
first_bytes k l h =
    by_test (leb (length l) k) (λ e. ap (λ (s : List ℕ). read_bits (bits s)) (take_all k l (leb-true (length l) k e)))
    (λ e.
    let p : List ℕ = take k l in
    let n : length p ≡ k = length-take-le k l (omega (arith, leb-false (length l) k e)) in
    sym (bits_same (bits (drop k l)) (bits p) (bits_bits p) (omega (arith, bits_length p)))
    ∙ ap read_bits (sym (bits_append p (drop k l)) ∙ ap bits (take-append-drop k l)))

pub long_sheet : LongSheet
unfolding LongSheet
long_sheet l = first_bytes (longest_sheet + 1) l (omega arith)
