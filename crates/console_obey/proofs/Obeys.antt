-- A command of each group, obeyed; and that a line is obeyed in one way.
-- Assumes nothing.
use Prim.Native.Nat.{ℕ, ◌-◌, ◌≤◌}
use native.Mathlib.Omega.{arith}
use mathlib.Core.Path.{◌≡◌, refl, sym, ap, ap₂, ◌∙◌}
use mathlib.Core.Bool.{Bool, true, false}
use mathlib.Core.List.{List, []}
use lib.ListN.{length, take, drop, length-drop}
use lib.Seq.{take_all}
use Rattle.rules.specs.declared.Set.{Set as Streams}
use Rattle.rules.specs.declared.Position.{Position}
use Rattle.rules.specs.declared.StartResult.{StartResult}
use Rattle.rules.specs.Streams.{empty_set}
use Rattle.rules.specs.Steps.{start_of}
use Rattle.ascii.specs.Decimal.{letters}
use Rattle.ascii.specs.Hex.{unhexed}
use Rattle.line.specs.declared.Line.{Line}
use Rattle.line.specs.Line.{line_room, holding}
use Rattle.answer_words.specs.Words.{line_of}
use Rattle.page.specs.Pages.{room_for, appended, end_of}
use Rattle.page.proofs.Prints.{room_less}
use Rattle.page.proofs.Pieces.{onto_line, onto_none, onto_once}
use Rattle.console_names.specs.declared.Command.{Command}
use Rattle.console_names.specs.declared.Command.TheVariants.{Nothing, Unknown, Set, State, Ask, Replay, Record, Cable, Check}
use Rattle.console_names.specs.declared.SetCommand.{SetCommand}
use Rattle.console_names.specs.declared.StateCommand.{StateCommand}
use Rattle.console_names.specs.declared.Question.{Question}
use Rattle.console_names.specs.declared.ReplayCommand.{ReplayCommand}
use Rattle.console_names.specs.declared.CableCommand.{CableCommand}
use Rattle.console_names.specs.declared.CheckCommand.{CheckCommand}
use Rattle.console_names.specs.Rows.{nth}
use Rattle.console_parse.specs.declared.Order.{Order}
use Rattle.console_parse.specs.Lines.{order_of}
use Rattle.console_set.specs.declared.SetAfter.{SetAfter}
use Rattle.console_set.specs.SetCommands.{set_after, set_line}
use Rattle.console_set.proofs.Puts.{set_short}
use Rattle.console_state.specs.declared.Terms.{Terms}
use Rattle.console_state.specs.declared.StateAfter.{StateAfter}
use Rattle.console_state.specs.StateCommands.{first_terms, state_after, terms_after, state_line}
use Rattle.console_state.proofs.Steps.{state_short}
use Rattle.console_replay.specs.declared.Replay.{Replay as Replayed}
use Rattle.console_replay.specs.declared.ReplayAfter.{ReplayAfter}
use Rattle.console_replay.specs.ReplayCommands.{first_replay, replay_after, replay_state_after, replay_line_of}
use Rattle.console_replay.specs.Records.{record_lines, record_room, Records}
use Rattle.console_replay.proofs.Replays.{replay_short}
use Rattle.console_replay.proofs.Records.{with_room as records_onto}
use Rattle.sheet_carried.specs.declared.Carried.{Carried}
use Rattle.console_cable.specs.declared.CableAfter.{CableAfter}
use Rattle.console_cable.specs.CableCommands.{first_carried, cable_after, cable_set_after, cable_line}
use Rattle.console_cable.proofs.Cables.{cable_short}
use Rattle.console_check.specs.declared.CheckAfter.{CheckAfter}
use Rattle.console_check.specs.CheckCommands.{first_position, Checked, OnLine}
use Rattle.console_check.proofs.Once.{checked_once, checked_short}
use Rattle.console_ask.specs.Questions.{Asks, Answered, answer_room}
use Rattle.console_ask.proofs.Once.{prints_once}
use Rattle.console_obey.specs.declared.Desk.{Desk}
use Rattle.console_obey.specs.declared.Step.{Step}
use Rattle.console_obey.specs.Obeyed.{first_desk, with_set, with_state, with_replay, with_carried, with_position, with_terms, Does, Stepped, text_of, Obeyed, ObeysIf, Obeys}

pub begun : (x : Streams) (s : StartResult) (t : Replayed) (k : Carried) (p : Position) (u : Terms) → x ≡ empty_set → s ≡ start_of x → t ≡ first_replay
    → k ≡ first_carried → p ≡ first_position → u ≡ first_terms
    → ◌≡◌ {A = Desk} (record { set = x; state = s.state; replay = t; carried = k; position = p; terms = u }) first_desk
begun x s t k p u e f g h i j = rw (f, e, g, h, i, j)

-- ---- a command of each group

module _ (d : Desk) (ns text out : List ℕ) (at : ℕ) where
  pub nothing_step : (k : Command) → k ≡ Nothing → Stepped d k ns text out at (record { desk = d; at = at }) out
  nothing_step k e = rw e (record { bytes = []; does = (refl, refl); onto = onto_none out at })

  module _ (end : ℕ) (page : List ℕ) where
    pub unknown_step : (l : Line) → l ≡ holding (line_of (letters "?")) → (end ≡ end_of out at l) × (page ≡ appended out at l)
        → Stepped d Unknown ns text out at (record { desk = d; at = end }) page
    unknown_step l e p =
        record {
          bytes = line_of (letters "?");
          does = (refl, refl);
          onto = onto_line out (line_of (letters "?")) at l end page (let short : length (line_of (letters "?")) ≤ line_room = omega arith in short) e p;
        }

    pub set_step : (k : SetCommand) (bytes : List ℕ) (a : SetAfter) → bytes ≡ unhexed text
        → a ≡ record { set = set_after k ns bytes d.set; line = holding (set_line k bytes) }
        → (end ≡ end_of out at a.line) × (page ≡ appended out at a.line)
        → Stepped d (Set k) ns text out at (record { desk = with_set a.set d; at = end }) page
    set_step k bytes a f e p =
        let g : a ≡ record { set = set_after k ns (unhexed text) d.set; line = holding (set_line k (unhexed text)) } = rw f at e in
        record {
          bytes = set_line k (unhexed text);
          does = (ap (λ (b : SetAfter). with_set b.set d) g, refl);
          onto = onto_line out (set_line k (unhexed text)) at a.line end page (set_short k (unhexed text)) (ap (λ (b : SetAfter). b.line) g) p;
        }

    pub state_step : (k : StateCommand) (a : StateAfter)
        → a
        ≡ record {
          state = state_after k ns d.set d.terms d.state;
          terms = terms_after k ns d.terms;
          line = holding (state_line k ns d.set d.terms d.state);
        }
        → (end ≡ end_of out at a.line) × (page ≡ appended out at a.line)
        → Stepped d (State k) ns text out at (record { desk = with_terms a.terms (with_state a.state d); at = end }) page
    state_step k a e p =
        let line : List ℕ = state_line k ns d.set d.terms d.state in
        record {
          bytes = line;
          does = (ap (λ (b : StateAfter). with_terms b.terms (with_state b.state d)) e, refl);
          onto =
              onto_line out line at a.line end page (state_short k ns d.set d.terms d.state)
              (ap (λ (b : StateAfter). b.line) e) p;
        }

    pub replayed_step : (k : ReplayCommand) (bytes : List ℕ) (a : ReplayAfter) → bytes ≡ unhexed text
        → a
        ≡ record {
          replay = replay_after k ns bytes d.state d.replay;
          state = replay_state_after k d.replay d.state;
          line = holding (replay_line_of k bytes d.state d.replay);
        }
        → (end ≡ end_of out at a.line) × (page ≡ appended out at a.line)
        → Stepped d (Replay k) ns text out at (record { desk = with_replay a.replay (with_state a.state d); at = end }) page
    replayed_step k bytes a f e p =
        let line : List ℕ = replay_line_of k (unhexed text) d.state d.replay in
        let g : a
        ≡ record {
          replay = replay_after k ns (unhexed text) d.state d.replay;
          state = replay_state_after k d.replay d.state;
          line = holding (replay_line_of k (unhexed text) d.state d.replay);
        } = rw f at e in
        record {
          bytes = line;
          does = (ap (λ (b : ReplayAfter). with_replay b.replay (with_state b.state d)) g, refl);
          onto =
              onto_line out line at a.line end page (replay_short k (unhexed text) d.state d.replay)
              (ap (λ (b : ReplayAfter). b.line) g) p;
        }

    pub cable_step : (k : CableCommand) (bytes : List ℕ) (a : CableAfter) → bytes ≡ unhexed text
        → a
        ≡ record { carried = cable_after k bytes d.carried; set = cable_set_after k d.carried d.set; line = holding (cable_line k bytes d.carried) }
        → (end ≡ end_of out at a.line) × (page ≡ appended out at a.line)
        → Stepped d (Cable k) ns text out at (record { desk = with_carried a.carried (with_set a.set d); at = end }) page
    cable_step k bytes a f e p =
        let line : List ℕ = cable_line k (unhexed text) d.carried in
        let g : a
        ≡ record {
          carried = cable_after k (unhexed text) d.carried;
          set = cable_set_after k d.carried d.set;
          line = holding (cable_line k (unhexed text) d.carried);
        } = rw f at e in
        record {
          bytes = line;
          does = (ap (λ (b : CableAfter). with_carried b.carried (with_set b.set d)) g, refl);
          onto = onto_line out line at a.line end page (cable_short k (unhexed text) d.carried) (ap (λ (b : CableAfter). b.line) g) p;
        }

    pub check_step : (k : CheckCommand) (a : CheckAfter) → OnLine (Checked k ns d.set d.position) a
        → (end ≡ end_of out at a.line) × (page ≡ appended out at a.line)
        → Stepped d (Check k) ns text out at (record { desk = with_position a.position d; at = end }) page
    check_step k a o p =
        record {
          bytes = o.bytes;
          does = (refl, o.so);
          onto =
              onto_line out o.bytes at a.line end page (checked_short k ns d.set d.position a.position o.bytes o.so) o.line p;
        }

    pub record_step : room_for out at answer_room ≡ true → Records text (nth ns 0) out at end page
        → Stepped d Record ns text out at (record { desk = d; at = end }) page
    record_step room t =
        record {
          bytes = record_lines text (nth ns 0);
          does = (refl, refl);
          onto = records_onto text (nth ns 0) out at end page (room_less out at record_room answer_room room (omega arith)) t;
        }

    pub question_step : (q : Question) → room_for out at answer_room ≡ true → Asks q ns d.set d.state out at end page
        → Stepped d (Ask q) ns text out at (record { desk = d; at = end }) page
    question_step q room a =
        let t : Answered q ns d.set d.state out at end page = rw room at a in
        record { bytes = t.bytes; does = (refl, t.prints); onto = t.onto }

  pub by_command : (k c : Command) (r : Step) (page : List ℕ) → k ≡ c → Stepped d c ns text out at r page → Stepped d k ns text out at r page
  by_command k c r page e t = rw e t

  -- what a command leaves, where the line that it prints was put on the page
  pub put_step : (k c : Command) (e : Desk) (l : Line) (r : Step) (page : List ℕ) → k ≡ c
      → ((end : ℕ) → (end ≡ end_of out at l) × (page ≡ appended out at l) → Stepped d c ns text out at (record { desk = e; at = end }) page)
      → (r ≡ record { desk = e; at = end_of out at l }) × (page ≡ appended out at l) → Stepped d k ns text out at r page
  put_step k c e l r page h f g = rw (h, g.0) (f (end_of out at l) (refl, g.1))

-- ---- a line

module _ (d : Desk) (line out : List ℕ) (at : ℕ) where
  -- with room: the text is the rest of the line
  pub obeys : (o : Order) (r : Step) (page : List ℕ) → room_for out at answer_room ≡ true → o ≡ order_of line
      → Stepped d o.command o.numbers (take (length line - o.text) (drop o.text line)) out at r page → Obeys d line out at r page
  obeys o r page room e t =
      let all : take (length line - o.text) (drop o.text line) ≡ drop o.text line =
      take_all (length line - o.text) (drop o.text line) (omega (arith, length-drop o.text line)) in
      rw room (rw (all, e) at t)

  -- what is allowed with room
  pub with_room : (r : Step) (page : List ℕ) → room_for out at answer_room ≡ true → Obeys d line out at r page → Obeyed d line out at r page
  with_room r page e o = rw e at o

  -- without room
  pub stays : room_for out at answer_room ≡ false → Obeys d line out at (record { desk = d; at = at }) out
  stays e = rw e (refl, refl)

-- ---- two results that are allowed for one input are the same

module _ (ns text : List ℕ) (d e f : Desk) (v w : List ℕ) where
  equal : (g : Desk) (u : List ℕ) → (e ≡ g) × (v ≡ u) → (f ≡ g) × (w ≡ u) → (e ≡ f) × (v ≡ w)
  equal g u p q = (p.0 ∙ sym q.0, p.1 ∙ sym q.1)

  does_once : (k : Command) → Does k ns text d e v → Does k ns text d f w → (e ≡ f) × (v ≡ w)
  does_once Nothing p q = equal _ _ p q
  does_once Unknown p q = equal _ _ p q
  does_once (Set k) p q = equal _ _ p q
  does_once (State k) p q = equal _ _ p q
  does_once (Ask a) p q = (p.0 ∙ sym q.0, prints_once a ns d.set d.state v w p.1 q.1)
  does_once (Replay k) p q = equal _ _ p q
  does_once Record p q = equal _ _ p q
  does_once (Cable k) p q = equal _ _ p q
  does_once (Check k) p q =
      let same = checked_once k ns d.set d.position e.position f.position v w p.1 q.1 in
      (p.0 ∙ ap (λ (g : Position). with_position g d) same.0 ∙ sym q.0, same.1)

module _ (d : Desk) (line out : List ℕ) (at : ℕ) where
  pub obeys_once : (r s : Step) (p q : List ℕ) → Obeys d line out at r p → Obeys d line out at s q → (r ≡ s) × (p ≡ q)
  obeys_once r s p q = go (room_for out at answer_room)
    where
      go : (room : Bool) → ObeysIf room d line out at r p → ObeysIf room d line out at s q → (r ≡ s) × (p ≡ q)
      go true t u =
          let once = does_once (order_of line).numbers (text_of line) d r.desk s.desk t.bytes u.bytes (order_of line).command t.does u.does in
          let same = onto_once out t.bytes u.bytes at r.at s.at p q once.1 t.onto u.onto in
          (ap₂ (λ (x : Desk) (n : ℕ). record { desk = x; at = n }) once.0 same.0, same.1)
      go false t u = (t.0 ∙ sym u.0, t.1 ∙ sym u.1)
