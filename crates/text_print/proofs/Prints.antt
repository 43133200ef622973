-- The lines of a set, put on a page one behind the other.
-- Assumes nothing.
use Prim.Native.Nat.{ℕ, ◌+◌, ◌-◌, ◌*◌, ◌≤◌, ◌<◌}
use native.Mathlib.Omega.{arith}
use mathlib.Core.Path.{◌≡◌, refl, sym, ap, ◌∙◌}
use mathlib.Core.Bool.{true, false≢true}
use mathlib.Core.List.{List, [], ◌∷◌, ◌++◌, append_assoc, append-nil}
use lib.ListN.{length, get_or, take, drop, length-append, take-append-drop, drop_of_length-le}
use lib.Seq.{drop-drop, drop-cons, length-take-le}
use native.Mathlib.Numerals.{add-one}
use Rattle.std.proofs.lemmas.List.Folds.{list_all_at}
use lib.Dec.{leb, eqb}
use borrow.Author.Tests.{eq-eqb, ne_eqb}
use Rattle.std.specs.List.{list_all}
use Rattle.laws.specs.Lists.{flat}
use Rattle.laws.proofs.Sums.{by_test, and_parts}
use Rattle.rules.specs.declared.Stream.{Stream}
use Rattle.rules.specs.declared.Set.{Set}
use Rattle.rules.specs.Streams.{streams_of, stream_ok, valid}
use Rattle.rules.proofs.Valid.{valid_stream}
use Rattle.line.specs.declared.Line.{Line}
use Rattle.line.specs.Line.{holding, put_of, puts}
use Rattle.line.proofs.Puts.{last, holds}
use Rattle.text_line.specs.Lines.{stages_text, limit_text, version_text}
use Rattle.text_line.proofs.Short.{stages_short, limit_short}
use Rattle.page.specs.Pages.{appended, end_of}
use Rattle.page.proofs.Rooms.{end_at, holds_then, same_size, rest_stays}
use Rattle.text_print.specs.Listed.{first_text, line_text, text_of}

-- the line for the version
module _ (version : ℕ) (b : Line) (e : b ≡ holding []) where
  pub first_is : (m r : Line) → version ≡ 2 → m ≡ puts b version_text → r ≡ put_of m 10 → r ≡ puts (holding []) (first_text version)
  first_is m r h f g = rw (eq-eqb version 2 h) (last b m r version_text 10 f g ∙ ap (λ (l : Line). puts l (version_text ++ (10 ∷ []))) e)

  pub first_none : (version ≡ 2 → ⊥) → b ≡ puts (holding []) (first_text version)
  unfolding puts
  first_none h = rw (ne_eqb version 2 h) e

pub end_is : (l r : Line) (s : Stream) → l ≡ puts (holding []) (limit_text s) → r ≡ put_of l 10 → r ≡ puts (holding []) (limit_text s ++ (10 ∷ []))
end_is l r s e f = last (holding []) l r (limit_text s) 10 e f

streams_ok : (x : Set) → valid x ≡ true → list_all stream_ok (streams_of x) ≡ true
unfolding valid
streams_ok x ok = (and_parts (list_all stream_ok (streams_of x)) _ (and_parts (leb x.count 16) _ ok).1).0

stream_ok_lem : (ss : List Stream) (k : ℕ) (d : Stream) → list_all stream_ok ss ≡ true → k < length ss → stream_ok (get_or ss k d) ≡ true
stream_ok_lem ss k d ok h =
    by_test (stream_ok (get_or ss k d)) (λ e. e) (λ e. absurd (false≢true (sym (list_all_at stream_ok ss k d h e) ∙ ok)))

first_short : (version : ℕ) → length (first_text version) ≤ 10
first_short version = by_test (eqb version 2) (λ e. rw e (omega arith)) (λ e. rw e (omega arith))

-- a part of what is to be printed stands at the front of the page, and `left` is to come
pub record Printing (whole out₀ out : List ℕ) (at : ℕ) (left : List ℕ) : Type 0 where
  pub size : length out ≡ length out₀
  pub text : take at out ++ left ≡ whole
  pub rest : drop at out ≡ drop at out₀

-- one part more
module _ (whole out₀ out : List ℕ) (at : ℕ) (v left : List ℕ) (p : Printing whole out₀ out at (v ++ left)) (l : Line) (f : l ≡ puts (holding []) v)
    (short : length v ≤ 128) (fits : at + length v ≤ length out) where
  held : l ≡ holding v
  held = f ∙ holds [] v (omega arith)

  part_end : (a : ℕ) → a ≡ end_of out at l → a ≡ at + length v
  part_end a i = i ∙ ap (λ (m : Line). end_of out at m) held ∙ end_at out v at short fits

  part_put : (o : List ℕ) (a : ℕ) → a ≡ end_of out at l → o ≡ appended out at l → Printing whole out₀ o a left
  part_put o a i j =
      let end : a ≡ at + length v = part_end a i in
      let page : o ≡ appended out at (holding v) = j ∙ ap (λ (m : Line). appended out at m) held in
      let front : take a o ≡ take at out ++ v = rw (end, page) (holds_then out v at short fits) in
      record {
        size = ap length page ∙ same_size out v at short fits ∙ p.size;
        text = ap (λ (w : List ℕ). w ++ left) front ∙ append_assoc (take at out) v left ∙ p.text;
        rest =
            rw (end, page)
            (rest_stays out v at short fits
            ∙ sym (drop-drop (length v) at out)
            ∙ ap (λ (w : List ℕ). drop (length v) w) p.rest
            ∙ drop-drop (length v) at out₀);
      }

-- the line for the version stands at the front of the page
pub record Begun (x : Set) (out o : List ℕ) (a : ℕ) : Type 0 where
  pub low : a ≤ 10
  pub page : Printing (text_of x) out o a (flat line_text (streams_of x))

pub print_first : (x : Set) (out : List ℕ) (l : Line) (o : List ℕ) (a : ℕ) → 3264 ≤ length out → l ≡ puts (holding []) (first_text x.version)
    → a ≡ end_of out 0 l → o ≡ appended out 0 l → Begun x out o a
unfolding text_of
print_first x out l o a room f i j =
    let v : List ℕ = first_text x.version in
    let more : List ℕ = flat line_text (streams_of x) in
    let short : length v ≤ 10 = first_short x.version in
    let p : Printing (v ++ more) out out 0 (v ++ more) = record { size = refl; text = refl; rest = refl } in
    record {
      low = omega (arith, part_end (v ++ more) out out 0 v more p l f (omega arith) (omega arith) a i);
      page = part_put (v ++ more) out out 0 v more p l f (omega arith) (omega arith) o a i j;
    }

-- behind it the lines of the first k streams of ss; out₀ and at₀ are what the loop began with
pub record Listing (x : Set) (ss : List Stream) (out₀ : List ℕ) (at₀ : ℕ) (out : List ℕ) (k at : ℕ) : Type 0 where
  pub streams : ss ≡ streams_of x
  pub few : length ss ≤ 16
  pub room : at₀ + 3072 ≤ length out₀
  pub low : at ≤ at₀ + k * 192
  pub page : Printing (take at₀ out₀ ++ flat line_text (streams_of x)) out₀ out at (flat line_text (drop k ss))

pub print_start : (x : Set) (ss : List Stream) (out o : List ℕ) (a : ℕ) → ss ≡ streams_of x → length ss ≤ 16 → 3264 ≤ length out → Begun x out o a → Listing x ss o a o 0 a
print_start x ss out o a e few room p =
    record {
      streams = e;
      few = few;
      room = omega (arith, p.low, p.page.size);
      low = omega arith;
      page = record { size = refl; text = ap (λ (rs : List Stream). take a o ++ flat line_text rs) e; rest = refl };
    }

module _ (x : Set) (ss : List Stream) (out₀ : List ℕ) (at₀ : ℕ) (out : List ℕ) (k at : ℕ) (q : Listing x ss out₀ at₀ out k at) where
  pub print_turn : (d s : Stream) (l m : Line) (o₁ o : List ℕ) (b a : ℕ) → valid x ≡ true → k < length ss
      → s ≡ get_or ss k d → l ≡ puts (holding []) (stages_text s) → b ≡ end_of out at l → o₁ ≡ appended out at l
      → m ≡ puts (holding []) (limit_text s ++ (10 ∷ [])) → a ≡ end_of o₁ b m → o ≡ appended o₁ b m → Listing x ss out₀ at₀ o (k + 1) a
  unfolding flat
  print_turn d s l m o₁ o b a ok h e f i j f₂ i₂ j₂ =
      let all : list_all stream_ok ss ≡ true = ap (list_all stream_ok) q.streams ∙ streams_ok x ok in
      let fine : stream_ok s ≡ true = ap stream_ok e ∙ stream_ok_lem ss k d all h in
      let deep : s.depth ≤ 4 = (valid_stream s fine).depth.high in
      let front : length (stages_text s) ≤ 76 = omega (arith, stages_short s fine) in
      let back : length (limit_text s ++ (10 ∷ [])) ≤ 100 = omega (arith, length-append (limit_text s) (10 ∷ []), limit_short s fine) in
      let whole : List ℕ = take at₀ out₀ ++ flat line_text (streams_of x) in
      let more : List ℕ = flat line_text (drop (k + 1) ss) in
      let cons : drop k ss ≡ get_or ss k d ∷ drop (k + 1) ss = rw add-one (drop-cons ss k d h) in
      let left : flat line_text (drop k ss) ≡ stages_text s ++ ((limit_text s ++ (10 ∷ [])) ++ more) =
      ap (flat line_text) cons
      ∙ ap (λ (y : Stream). line_text y ++ more) (sym e)
      ∙ ap (λ (w : List ℕ). w ++ more) (append_assoc (stages_text s) (limit_text s) (10 ∷ []))
      ∙ append_assoc (stages_text s) (limit_text s ++ (10 ∷ [])) more in
      let p : Printing whole out₀ out at (stages_text s ++ ((limit_text s ++ (10 ∷ [])) ++ more)) = rw left at q.page in
      let fits : at + 176 ≤ length out = omega (arith, q.low, q.few, q.room, p.size) in
      let one : b ≡ at + length (stages_text s) = part_end whole out₀ out at (stages_text s) _ p l f (omega arith) (omega arith) b i in
      let p₂ : Printing whole out₀ o₁ b ((limit_text s ++ (10 ∷ [])) ++ more) = part_put whole out₀ out at (stages_text s) _ p l f (omega arith) (omega arith) o₁ b i j in
      let fits₂ : b + 100 ≤ length o₁ = omega (arith, p.size, p₂.size) in
      record {
        streams = q.streams;
        few = q.few;
        room = q.room;
        low = omega (arith, q.low, part_end whole out₀ o₁ b (limit_text s ++ (10 ∷ [])) more p₂ m f₂ (omega arith) (omega arith) a i₂);
        page = part_put whole out₀ o₁ b (limit_text s ++ (10 ∷ [])) more p₂ m f₂ (omega arith) (omega arith) o a i₂ j₂;
      }

  module _ (out₁ : List ℕ) (r : Begun x out₁ out₀ at₀) where
    pub print_size : length out ≡ length out₁
    print_size = q.page.size ∙ r.page.size

    pub print_end : k ≤ length ss → length ss ≤ k → (at ≡ length (text_of x)) × (out ≡ text_of x ++ drop (length (text_of x)) out₁)
    unfolding flat
    print_end g h =
        let p : Printing (take at₀ out₀ ++ flat line_text (streams_of x)) out₀ out at [] = rw (drop_of_length-le ss h) at q.page in
        let printed : take at out ≡ text_of x = sym (append-nil (take at out)) ∙ p.text ∙ r.page.text in
        let inside : at ≤ length out = omega (arith, q.low, q.few, q.room, p.size) in
        let end : at ≡ length (text_of x) = sym (length-take-le at out inside) ∙ ap length printed in
        let long : at₀ ≤ length (text_of x) = omega (arith, ap length r.page.text, length-append (take at₀ out₀) (flat line_text (streams_of x)), length-take-le at₀ out₀ (omega (arith, q.room))) in
        let same : drop at out₀ ≡ drop at out₁ = later at (omega arith) in (
          end,
          sym (take-append-drop at out)
              ∙ ap (λ (w : List ℕ). w ++ drop at out) printed
              ∙ ap (λ (w : List ℕ). text_of x ++ w) (p.rest ∙ same ∙ ap (λ (n : ℕ). drop n out₁) end),
        )
      where
        later : (n : ℕ) → at₀ ≤ n → drop n out₀ ≡ drop n out₁
        later n h =
            let sum : n ≡ at₀ + (n - at₀) = omega arith in
            ap (λ (m : ℕ). drop m out₀) sum
            ∙ sym (drop-drop (n - at₀) at₀ out₀)
            ∙ ap (λ (w : List ℕ). drop (n - at₀) w) r.page.rest
            ∙ drop-drop (n - at₀) at₀ out₁
            ∙ ap (λ (m : ℕ). drop m out₁) (sym sum)
