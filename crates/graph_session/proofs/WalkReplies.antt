-- The lines of a walk and of levels, and what the answer to a line that asks for them is.
use Rattle.std.proofs.Common.{◌≡◌, ◌≢◌, ◌∙◌, ◌+◌, ◌-◌, ◌<◌, ◌≤◌, ℕ, false, List, [], ◌∷◌, ◌++◌, append_assoc, get_or}
use Rattle.std.proofs.Common.{length, map, take, drop, add-one, refl, sym, ap, subst, arith}
use Rattle.std.proofs.Math.Seq.{take-length, take-suc}
use Rattle.std.proofs.lemmas.List.{map-append, take-append-drop}
use Rattle.stream_io.specs.declared.streams.Sink.{Ghosts}
use Rattle.plain_graph.specs.Lines.{Reading, listed, no_path_text, path_text, walk_reading}
use Rattle.plain_graph.specs.Reply.{Told, end_text, item_line, prefixed_text, text_line}
use Rattle.plain_graph.specs.declared.item.Item.TheVariants as items
use Rattle.graph_session.specs.Answer.{Gives}
use Rattle.graph_session.specs.Exchange.{AreFirst}
use Rattle.graph_session.specs.ReplyLines.{AddsLine}
use Rattle.graph_session.specs.declared.reply_lines.ReplyLines.{ReplyLines}
use Rattle.graph_session.specs.declared.turn.Turn.{Turn}
use Rattle.graph_session.specs.declared.turn.Turn.TheVariants.{Go}
use Rattle.graph_session.proofs.ListedLines.{HasLines, lines-add, lines-last, lines-stop_in}

-- ---- lines of a list, one after the other

module _ {A : Type 0} (line_of : A → List ℕ) (front : List (List ℕ)) (xs : List A) where
  -- the first lines, and those of the first places
  abbrev pub lines_to : ℕ → List (List ℕ)
  lines_to n = front ++ map line_of (take n xs)

  -- one more
  lines_to-more : (n : ℕ) (d : A) → n < length xs → lines_to (n + 1) ≡ lines_to n ++ line_of (get_or xs n d) ∷ []
  lines_to-more n d lt =
      ap (λ (m : ℕ). front ++ map line_of (take m xs)) (add-one n)
      ∙ ap (λ (some : List A). front ++ map line_of some) (take-suc xs n d lt)
      ∙ ap (λ (lines : List (List ℕ)). front ++ lines) (map-append line_of (take n xs) (get_or xs n d ∷ []))
      ∙ sym (append_assoc front (map line_of (take n xs)) (line_of (get_or xs n d) ∷ []))

  -- they are the first of all
  lines_to-first : (n : ℕ) → AreFirst (lines_to n) (front ++ map line_of xs)
  lines_to-first n = (
    map line_of (drop n xs),
    append_assoc front (map line_of (take n xs)) (map line_of (drop n xs))
        ∙ ap (λ (lines : List (List ℕ)). front ++ lines) (sym (map-append line_of (take n xs) (drop n xs)) ∙ ap (map line_of) (take-append-drop n xs)),
  )

  module _ {K : Type 0} {sink : Ghosts K} {old now : ReplyLines K} {n : ℕ} (has : HasLines sink old now (lines_to n)) where
    module _ (d : A) (lt : n < length xs) (new : ReplyLines K) where
      -- the line of one more
      pub listing-more : AddsLine sink (text_line (line_of (get_or xs n d))) now new Go → HasLines sink old new (lines_to (n + 1))
      listing-more adds =
          subst (λ (lines : List (List ℕ)). HasLines sink old new lines) (sym (lines_to-more n d lt))
          (lines-add has (line_of (get_or xs n d)) new adds)

      -- the sink failed
      pub listing-stop : (last : List ℕ) (turn : Turn) → AddsLine sink (text_line (line_of (get_or xs n d))) now new turn → turn ≢ Go
          → Gives sink (prefixed_text old.prefix.now (Told (front ++ map line_of xs) last)) old.output.now new.output.now turn
      listing-stop last turn adds stops =
          lines-stop_in has (front ++ map line_of xs) last (line_of (get_or xs n d))
          (subst (λ (lines : List (List ℕ)). AreFirst lines (front ++ map line_of xs)) (lines_to-more n d lt) (lines_to-first (n + 1))) new turn adds stops

    -- all have lines
    pub listing-end : n ≤ length xs → length xs ≤ n → (last : List ℕ) (then : K) (turn : Turn)
        → Gives sink (now.buffer.now.bytes ++ (now.prefix.now ++ text_line last)) now.output.now then turn
        → Gives sink (prefixed_text old.prefix.now (Told (front ++ map line_of xs) last)) old.output.now then turn
    listing-end low high last then turn gives =
        let same : n ≡ length xs = omega (arith, low, high) in
        subst (λ (lines : List (List ℕ)). Gives sink (prefixed_text old.prefix.now (Told lines last)) old.output.now then turn)
        (ap lines_to same ∙ ap (λ (all : List A). front ++ map line_of all) (take-length xs))
        (lines-last has (text_line last) then turn gives)

-- ---- walks

-- the line of a node
abbrev pub node_line : ℕ → List ℕ
node_line id = item_line (items.Vertex id)

-- the line before those of a walk's nodes
abbrev pub edge_count_lines : List ℕ → List (List ℕ)
edge_count_lines walk = path_text (length walk - 1) ∷ []

-- a walk with nodes is told so
walk-listed : (walk : List ℕ) → 0 < length walk → listed (edge_count_lines walk ++ map node_line walk) ≡ walk_reading walk
walk-listed [] some = absurd (omega (arith, some))
walk-listed (first ∷ later) some = ap (λ (edges : ℕ). listed (path_text edges ∷ map node_line (first ∷ later))) (omega arith)

pub gives-walk : {K : Type 0} {sink : Ghosts K} {before after : K} {turn : Turn} (prefix walk : List ℕ) → 0 < length walk
    → Gives sink (prefixed_text prefix (Told (edge_count_lines walk ++ map node_line walk) end_text)) before after turn
    → Gives sink (prefixed_text prefix (Told (walk_reading walk).lines (walk_reading walk).last)) before after turn
gives-walk {sink = sink} {before = before} {after = after} {turn = turn} prefix walk some gives =
    subst (λ (reading : Reading). Gives sink (prefixed_text prefix (Told reading.lines reading.last)) before after turn) (walk-listed walk some) gives

-- and one without any, so
pub gives-no_walk : {K : Type 0} {sink : Ghosts K} {before after : K} {turn : Turn} (prefix walk : List ℕ) → length walk ≡ 0
    → Gives sink (prefix ++ text_line no_path_text) before after turn
    → Gives sink (prefixed_text prefix (Told (walk_reading walk).lines (walk_reading walk).last)) before after turn
gives-no_walk prefix [] none gives = gives
gives-no_walk prefix (first ∷ later) none gives = absurd (omega (arith, none))

-- no count passes in one
pub walk-counted : (walk : List ℕ) → (walk_reading walk).is_past ≡ false
walk-counted [] = refl
walk-counted (first ∷ later) = refl
