-- A command and the contents of its production: its parts, its form, and that one tail is of one command.
use Rattle.std.proofs.Common.{◌≡◌, ◌≢◌, ◌⊎◌, inl, inr, ℕ, Option, Some, None, List, [], ◌∷◌, ◌++◌, codes, refl, sym, ap, ◌∙◌, subst, ⊎_elim}
use Rattle.std.specs.List.{AllByRecursion}
use Rattle.plain_graph.specs.Lines.{HasForm}
use Rattle.plain_graph.specs.Names.{is_name_byte, IsShortName}
use Rattle.plain_graph.specs.Forms.{ArePairs, IsMaybeName}
use Rattle.plain_graph.specs.declared.command.Command.{Command}
use Rattle.plain_graph.specs.declared.command.Command.TheVariants as commands
use Rattle.plain_graph.specs.declared.command.Target.{Target}
use Rattle.plain_graph.specs.declared.command.Target.TheVariants as targets
use Rattle.plain_graph.specs.declared.direction.Direction.{Direction}
use Rattle.plain_graph.specs.declared.direction.Direction.TheVariants as directions
use Rattle.plain_graph.specs.declared.pairs.Pair.{Pair}
use Rattle.gremlin_parse.specs.Commands.{Asks, IsAfter, IsCommand, IsLast, IsLastOf, IsPlain, IsTail, KeepsBounds}
use Rattle.gremlin_parse.specs.Commands.{KeepsTail, LacksMemory, LastContent, LastOf, NeedsNoMemory, SpellsAfter}
use Rattle.gremlin_parse.specs.Commands.{command_of, element_of, head_words, last_part, parts_of, plain_command}
use Rattle.gremlin_parse.specs.Commands.{production, word_of}
use Rattle.gremlin_parse.specs.Grammar.{most_id, Part, Blanks, Gap, Exactly, Name, Number, Written, IsPart, IsMadeOf}
use Rattle.gremlin_parse.specs.Grammar.{target_parts, between_parts, direction_name, pairs_to_end, name_to_end}
use Rattle.gremlin_parse.specs.Grammar.{IsBounded}
use Rattle.gremlin_parse.specs.Queries.{IsKeptQuery}
use Rattle.gremlin_parse.specs.Lines.{IsKeptTail, Spells}
use Rattle.gremlin_parse.specs.Reading.{Then}
use Rattle.gremlin_parse.specs.Keywords.{Entry, InTable, plain, TakesWord}
use Rattle.gremlin_parse.specs.Symbols.{Contents, ReadsAll}
use Rattle.gremlin_parse.specs.Arguments.{target_names, direction_named, direction_names}
use Rattle.gremlin_parse.specs.Lasts.{Lacks, last_parts}
use Rattle.gremlin_parse.specs.declared.head.Head.{Head}
use Rattle.gremlin_parse.specs.declared.head.Head.TheVariants as heads
use Rattle.gremlin_parse.specs.declared.viewed.Viewed.TheVariants as views
use Rattle.gremlin_parse.specs.declared.word.Word.{Word}
use Rattle.gremlin_parse.specs.declared.word.Word.TheVariants as words
use Rattle.gremlin_parse.proofs.Runs.{Halts}
use Rattle.gremlin_parse.proofs.Tables.{lookup_in, ThenWord-after, words_agree}
use Rattle.gremlin_parse.proofs.Symbols.{NameByte, no_blanks}
use Rattle.gremlin_parse.proofs.Productions.{HaltsAt, follows_halts, read_follows}
use Rattle.gremlin_parse.proofs.Spelling.{AllowsAll, parts_with, ThenParts, then_parts_map, then_parts_choice}
use Rattle.gremlin_parse.proofs.Spelling.{follows_of_parts, parts_of_follows, follows_agree, read_allowed, read_bounded}
use Rattle.gremlin_parse.proofs.Lasts.{one_last}
use Rattle.gremlin_parse.proofs.QueryLaws.{IsAsked, query_is_asked, query_of_kept}
use Rattle.gremlin_parse.proofs.Forms.{query_form}
use Rattle.gremlin_parse.proofs.Heads.{entry_word, head_table, production_is, production_halts, last_closes, no_word_in_nothing}

-- ---- the command that is spelled

last_of_halts : (command : Command) (head : Head) (contents : Contents (production head)) → HaltsAt no_blanks (IsLastOf command head contents)
last_of_halts command head contents = λ class halts rest (last, is, made). (last_closes head).ends class halts rest (last, made)

pub spells_halts : (command : Command) (head : Head) → Halts is_name_byte (SpellsAfter command head)
spells_halts command head = follows_halts NameByte (no_blanks NameByte) (production head) (production_halts head) (IsLastOf command head)
    (λ contents. last_of_halts command head contents NameByte)

-- the contents of a spelled command
pub record Spelled (command : Command) (head : Head) (bytes : List ℕ) : Type 0 where
  pub contents : Contents (production head)
  pub allowed : AllowsAll (production head) contents
  pub last : LastContent head
  pub is : command ≡ command_of head contents last
  pub made : ThenParts (parts_with (production head) contents) (LastOf head last) bytes

pub spelled_of_contents : (command : Command) (head : Head) (bytes : List ℕ) → Spelled command head bytes → SpellsAfter command head bytes
spelled_of_contents command head bytes spelled =
    follows_of_parts (production head) spelled.contents (IsLastOf command head) spelled.allowed bytes
    (then_parts_map (LastOf head spelled.last) (IsLastOf command head spelled.contents) (λ rest made. (spelled.last, spelled.is, made))
    (parts_with (production head) spelled.contents) bytes spelled.made)

pub contents_of_spelled : (command : Command) (head : Head) (bytes : List ℕ) → SpellsAfter command head bytes → Spelled command head bytes
contents_of_spelled command head bytes spells =
    let found = parts_of_follows (production head) (IsLastOf command head) bytes spells in
    let One : Type 0 = (last : LastContent head) × (command ≡ command_of head found.contents last) in
    let Made : One → List ℕ → Type 0 = λ one rest. LastOf head one.0 rest in
    let Both : List ℕ → Type 0 = λ rest. (one : One) × Made one rest in
    let chosen = then_parts_choice One Made (parts_with (production head) found.contents) bytes
    (then_parts_map (IsLastOf command head found.contents) Both (λ rest (last, is, made). ((last, is), made)) (parts_with (production head) found.contents)
    bytes found.is) in
    record { contents = found.contents; allowed = found.allowed; last = chosen.0.0; is = chosen.0.1; made = chosen.1 }

-- after the word, some command is one
pub some_spelled : (head : Head) (bytes : List ℕ) → IsAfter head bytes → (command : Command) × SpellsAfter command head bytes
some_spelled head bytes is =
    let found = parts_of_follows (production head) (λ _. IsLast head) bytes is in
    let chosen = then_parts_choice (LastContent head) (λ last rest. LastOf head last rest) (parts_with (production head) found.contents) bytes found.is in
    let command : Command = command_of head found.contents chosen.0 in
    let spelled : Spelled command head bytes = record { contents = found.contents; allowed = found.allowed; last = chosen.0; is = refl; made = chosen.1 } in
    (command, spelled_of_contents command head bytes spelled)

pub spelled_is_some : (command : Command) (head : Head) (bytes : List ℕ) → SpellsAfter command head bytes → IsAfter head bytes
spelled_is_some command head bytes spells =
    let spelled = contents_of_spelled command head bytes spells in
    follows_of_parts (production head) spelled.contents (λ _. IsLast head) spelled.allowed bytes
    (then_parts_map (LastOf head spelled.last) (IsLast head) (λ rest made. (spelled.last, made)) (parts_with (production head) spelled.contents)
    bytes spelled.made)

-- the command of the word that stands there
pub tail_of_word : (command : Command) (head : Head) (bytes rest : List ℕ) → TakesWord head_words bytes head rest → SpellsAfter command head rest
    → IsTail command bytes
tail_of_word command head bytes rest (run, cut, is) spells = inr ((run, head), lookup_in head_words run head is, (run, rest, cut.bytes_are, refl, spells))

-- ---- one command

-- the same last bytes are of the same command
last_agrees : (head : Head) (contents : Contents (production head)) (one two : LastContent head) (rest : List ℕ) → LastOf head one rest → LastOf head two rest
    → command_of head contents two ≡ command_of head contents one
last_agrees head contents one two rest made other = ap (command_of head contents) (one_last (last_part head) one two rest made other)

same_command : (command other : Command) (head : Head) (contents : Contents (production head)) (rest : List ℕ) → IsLastOf command head contents rest
    → IsLastOf other head contents rest → other ≡ command
same_command command other head contents rest (last, is, made) (second, is_other, others) = is_other ∙ last_agrees head contents last second rest made others
    ∙ sym is

-- One tail is of one command.
pub commands_agree : (command other : Command) (bytes : List ℕ) → IsTail command bytes → IsTail other bytes → other ≡ command
commands_agree command other bytes (inl (blank, end)) (inl (empty, ends)) = empty ∙ sym blank
commands_agree command other bytes (inl (blank, end)) (inr two) = absurd (no_word_in_nothing (SpellsAfter other) bytes end two)
commands_agree command other bytes (inr one) (inl (empty, end)) = absurd (no_word_in_nothing (SpellsAfter command) bytes end one)
commands_agree command other bytes (inr one) (inr two) =
    let word = words_agree head_words head_table (SpellsAfter command) (SpellsAfter other) (spells_halts command) (spells_halts other) bytes one two in
    let found = follows_agree no_blanks (production word.kind) (production_is word.kind) (IsLastOf command word.kind) (IsLastOf other word.kind)
    (last_of_halts command word.kind) (last_of_halts other word.kind) word.rest word.one word.two in
    same_command command other word.kind found.contents found.rest found.one found.two

-- Where a word of a command that asks for memory stands, no other command does.
lacks_memory : (head : Head) (bytes rest : List ℕ) → ((contents : Contents (production head)) (last : LastContent head) → ThenParts
    (parts_with (production head) contents) (LastOf head last) rest → ¬ NeedsNoMemory (command_of head contents last)) → bytes ≢ [] → TakesWord head_words bytes
    head rest → LacksMemory bytes
lacks_memory head bytes rest asks some takes = λ command none tail. refuse command none tail
  where
    refuse : (command : Command) → NeedsNoMemory command → ¬ IsTail command bytes
    refuse command none (inl (blank, end)) = some end
    refuse command none (inr word) =
        let spelled = contents_of_spelled command head rest (ThenWord-after head_words head_table (SpellsAfter command) (spells_halts command) bytes rest head
        takes word) in
        asks spelled.contents spelled.last spelled.made (subst NeedsNoMemory spelled.is none)

asked_memory : (command : Command) → IsAsked command → ¬ NeedsNoMemory command
asked_memory (commands.Query query) is = λ none. none
asked_memory (commands.Mutate reading mutation) is = λ none. none
asked_memory command is = absurd is

asks_memory : (head : Head) (rest : List ℕ) → Asks head → (contents : Contents (production head)) (last : LastContent head)
    → ThenParts (parts_with (production head) contents) (LastOf head last) rest → ¬ NeedsNoMemory (command_of head contents last)
asks_memory (heads.Alone word) rest asks contents last made = absurd asks
asks_memory heads.Delete rest asks contents last made = absurd asks
asks_memory heads.View rest asks contents last made = absurd asks
asks_memory heads.Query rest asks contents command made = asked_memory command (query_is_asked command rest made)
asks_memory head rest asks contents last made = λ none. none

pub lacks_asked : (head : Head) → Asks head → (bytes rest : List ℕ) → bytes ≢ [] → TakesWord head_words bytes head rest → LacksMemory bytes
lacks_asked head asks bytes rest some takes = lacks_memory head bytes rest (asks_memory head rest asks) some takes

-- What is read last asks for memory only where the command does.
pub last_asks : (head : Head) → Lacks (last_part head) → Asks head
last_asks (heads.Alone word) lacks = absurd lacks
last_asks heads.Delete lacks = absurd lacks
last_asks heads.View lacks = absurd lacks
last_asks head lacks = tt

-- ---- the parts of a command

-- the parts after a command's first word
abbrev pub tail_parts : (head : Head) → Contents (production head) → LastContent head → List Part
tail_parts head contents last = parts_with (production head) contents ++ last_parts (last_part head) last

-- the parts of an element between others
element_parts : (word name : List ℕ) (id : ℕ) (more : List Part) → InTable (name, tt) (plain target_names)
    → ((Exactly word ∷ Gap ∷ []) ++ target_parts (element_of name id)) ++ more ≡ Exactly word ∷ Gap ∷ Exactly name ∷ Gap ∷ Number most_id id ∷ more
element_parts word name id more allowed =
    let Made : Entry (Unit {0}) → Type 0 = λ entry. ((Exactly word ∷ Gap ∷ []) ++ target_parts (element_of entry.0 id)) ++ more ≡ Exactly word ∷ Gap ∷ Exactly
    entry.0 ∷ Gap ∷ Number most_id id ∷ more in
    let Here : Entry (Unit {0}) → Type 0 = λ entry. (name, tt) ≡ entry in
    ⊎_elim
    (λ (node : Here (codes "node", tt)). subst Made (sym node) refl)
    (λ (later : Here (codes "edge", tt) ⊎ ⊥). ⊎_elim (λ (edge : Here (codes "edge", tt)). subst Made (sym edge) refl) (λ (none : ⊥). absurd none) later)
    allowed

-- a name of a direction is that of the direction it stands for
named_direction : (name : List ℕ) → InTable (name, tt) (plain direction_names) → direction_name (direction_named name) ≡ name
named_direction name (inl out) = let same : name ≡ codes "out" = ap (λ (e : Entry (Unit {0})). e.0) out in
    subst (λ n. direction_name (direction_named n) ≡ n) (sym same) refl
named_direction name (inr (inl enters)) = let same : name ≡ codes "in" = ap (λ (e : Entry (Unit {0})). e.0) enters in
    subst (λ n. direction_name (direction_named n) ≡ n) (sym same) refl
named_direction name (inr (inr (inl both))) = let same : name ≡ codes "both" = ap (λ (e : Entry (Unit {0})). e.0) both in
    subst (λ n. direction_name (direction_named n) ≡ n) (sym same) refl
named_direction name (inr (inr (inr none))) = absurd none

-- the parts of two nodes, a direction and what stands last
between : (word : List ℕ) (from to : ℕ) (name : List ℕ) (label : Option (List ℕ)) → InTable (name, tt) (plain direction_names)
    → between_parts word from to (direction_named name) ++ name_to_end label
    ≡ (Exactly word ∷ Gap ∷ Number most_id from ∷ Gap ∷ Number most_id to ∷ Gap ∷ Exactly name ∷ []) ++ name_to_end label
between word from to name label allowed =
    ap (λ (n : List ℕ). (Exactly word ∷ Gap ∷ Number most_id from ∷ Gap ∷ Number most_id to ∷ Gap ∷ Exactly n ∷ []) ++ name_to_end label)
    (named_direction name allowed)

pub command_parts : (head : Head) (contents : Contents (production head)) (last : LastContent head) → IsPlain head → AllowsAll (production head) contents
    → parts_of (command_of head contents last) ≡ Exactly (word_of head) ∷ tail_parts head contents last
command_parts (heads.Alone words.Begin) contents last plain allows = refl
command_parts heads.Set contents last plain allows = element_parts (codes "set") contents.1.0 contents.1.1.1.0
    (Gap ∷ Name contents.1.1.1.1.1.0 ∷ Gap ∷ Written contents.1.1.1.1.1.1.1.0 ∷ Blanks ∷ []) allows.1.0
command_parts heads.Unset contents last plain allows = element_parts (codes "unset") contents.1.0 contents.1.1.1.0
    (Gap ∷ Name contents.1.1.1.1.1.0 ∷ Blanks ∷ []) allows.1.0
command_parts heads.Delete contents last plain allows = element_parts (codes "delete") contents.1.0 contents.1.1.1.0 (Blanks ∷ []) allows.1.0
command_parts heads.Expand contents last plain allows =
    ap (λ (name : List ℕ). Exactly (codes "expand") ∷ Gap ∷ Number most_id contents.1.0 ∷ Gap ∷ Exactly name ∷ Gap ∷ Name contents.1.1.1.1.1.0 ∷ Blanks ∷ [])
    (named_direction contents.1.1.1.0 allows.1.1.1.0)
command_parts heads.Degree contents last plain allows =
    ap (λ (name : List ℕ). (Exactly (codes "degree") ∷ Gap ∷ Number most_id contents.1.0 ∷ Gap ∷ Exactly name ∷ []) ++ name_to_end last)
    (named_direction contents.1.1.1.0 allows.1.1.1.0)
command_parts heads.Path contents last plain allows = between (codes "path") contents.1.0 contents.1.1.1.0 contents.1.1.1.1.1.0 last allows.1.1.1.1.1.0
command_parts heads.Levels contents last plain allows = between (codes "levels") contents.1.0 contents.1.1.1.0 contents.1.1.1.1.1.0 last allows.1.1.1.1.1.0
command_parts heads.View contents (views.Element target) plain allows = refl
command_parts heads.View contents views.Names plain allows = refl
command_parts heads.View contents views.Indexes plain allows = refl
command_parts heads.Query contents last plain allows = cc
command_parts head contents last plain allows = refl

pub is_command : (head : Head) (contents : Contents (production head)) (last : LastContent head) → IsPlain head → IsCommand (command_of head contents last)
is_command (heads.Alone words.Begin) contents last plain = tt
is_command heads.View contents (views.Element target) plain = tt
is_command heads.View contents views.Names plain = tt
is_command heads.View contents views.Indexes plain = tt
is_command heads.Query contents last plain = cc
is_command head contents last plain = tt

abbrev target_name : Target → List ℕ
target_name (targets.Node id) = codes "node"
target_name (targets.Edge id) = codes "edge"

abbrev target_id : Target → ℕ
target_id (targets.Node id) = id
target_id (targets.Edge id) = id

-- the element of its name and its identifier
pub element_is : (target : Target) → element_of (target_name target) (target_id target) ≡ target
element_is (targets.Node id) = refl
element_is (targets.Edge id) = refl

pub name_allowed : (target : Target) → InTable (target_name target, tt) (plain target_names)
name_allowed (targets.Node id) = inl refl
name_allowed (targets.Edge id) = inr (inl refl)

pub direction_is : (direction : Direction) → direction_named (direction_name direction) ≡ direction
direction_is directions.Outgoing = refl
direction_is directions.Incoming = refl
direction_is directions.Both = refl

pub direction_allowed : (direction : Direction) → InTable (direction_name direction, tt) (plain direction_names)
direction_allowed directions.Outgoing = inl refl
direction_allowed directions.Incoming = inr (inl refl)
direction_allowed directions.Both = inr (inr (inl refl))

-- the contents of which a command is
pub record Sentence (command : Command) : Type 0 where
  pub head : Head
  pub plain : IsPlain head
  pub contents : Contents (production head)
  pub allowed : AllowsAll (production head) contents
  pub last : LastContent head
  pub is : command ≡ command_of head contents last

one_word : (word : Word) → Sentence (plain_command word)
one_word word = record { head = heads.Alone word; plain = refl; contents = tt; allowed = tt; last = tt; is = refl }

pub sentence_of : (command : Command) → IsCommand command → (command ≡ commands.Blank) ⊎ Sentence command
sentence_of commands.Blank is = inl refl
sentence_of commands.Begin is = inr (one_word words.Begin)
sentence_of commands.Commit is = inr (one_word words.Commit)
sentence_of commands.Rollback is = inr (one_word words.Rollback)
sentence_of commands.Checkpoint is = inr (one_word words.Checkpoint)
sentence_of commands.Check is = inr (one_word words.Check)
sentence_of commands.Stats is = inr (one_word words.Stats)
sentence_of commands.Reopen is = inr (one_word words.Reopen)
sentence_of commands.Snapshot is = inr (one_word words.Snapshot)
sentence_of commands.Release is = inr (one_word words.Release)
sentence_of commands.Quit is = inr (one_word words.Quit)
sentence_of (commands.Node label pairs) is = inr (record {
  head = heads.Node;
  plain = refl;
  contents = (tt, (label, tt));
  allowed = (tt, (tt, tt));
  last =
      pairs;
  is = refl;
})
sentence_of (commands.Edge from label to pairs) is = inr (record {
  head = heads.Edge;
  plain = refl;
  contents = (tt, (from, (tt, (label, (tt, (to, tt))))));
  allowed = (tt, (tt, (tt, (tt, (tt, (tt, tt))))));
  last = pairs;
  is = refl;
})
sentence_of (commands.Set target key value) is = inr (record {
  head = heads.Set;
  plain = refl;
  contents = (tt, (target_name target, (tt, (target_id target, (tt, (key, (tt, (value, tt))))))));
  allowed = (tt, (name_allowed target, (tt, (tt, (tt, (tt, (tt, (tt, tt))))))));
  last = tt;
  is = ap (λ (t : Target). commands.Set t key value) (sym (element_is target));
})
sentence_of (commands.Unset target key) is = inr (record {
  head = heads.Unset;
  plain = refl;
  contents = (tt, (target_name target, (tt, (target_id target, (tt, (key, tt))))));
  allowed = (tt, (name_allowed target, (tt, (tt, (tt, (tt, tt))))));
  last = tt;
  is = ap (λ (t : Target). commands.Unset t key) (sym (element_is target));
})
sentence_of (commands.Delete target) is = inr (record {
  head = heads.Delete;
  plain = refl;
  contents = (tt, (target_name target, (tt, (target_id target, tt))));
  allowed = (tt, (name_allowed target, (tt, (tt, tt))));
  last = tt;
  is = ap (λ (t : Target). commands.Delete t) (sym (element_is target));
})
sentence_of (commands.Index label key) is = inr (record {
  head = heads.Index;
  plain = refl;
  contents = (tt, (label, (tt, (key, tt))));
  allowed =
      (tt, (tt, (tt, (tt, tt))));
  last = tt;
  is = refl;
})
sentence_of (commands.Find label key value) is = inr (record {
  head = heads.Find;
  plain = refl;
  contents = (tt, (label, (tt, (key, (tt, (value, tt))))));
  allowed = (tt, (tt, (tt, (tt, (tt, (tt, tt))))));
  last = tt;
  is = refl;
})
sentence_of (commands.Expand id direction label) is = inr (record {
  head = heads.Expand;
  plain = refl;
  contents = (tt, (id, (tt, (direction_name direction, (tt, (label, tt))))));
  allowed = (tt, (tt, (tt, (direction_allowed direction, (tt, (tt, tt))))));
  last = tt;
  is = ap (λ (d : Direction). commands.Expand id d label) (sym (direction_is direction));
})
sentence_of (commands.Degree id direction label) is = inr (record {
  head = heads.Degree;
  plain = refl;
  contents = (tt, (id, (tt, (direction_name direction, tt))));
  allowed = (tt, (tt, (tt, (direction_allowed direction, tt))));
  last = label;
  is = ap (λ (d : Direction). commands.Degree id d label) (sym (direction_is direction));
})
sentence_of (commands.Path from to direction label) is = inr (record {
  head = heads.Path;
  plain = refl;
  contents = (tt, (from, (tt, (to, (tt, (direction_name direction, tt))))));
  allowed = (tt, (tt, (tt, (tt, (tt, (direction_allowed direction, tt))))));
  last = label;
  is = ap (λ (d : Direction). commands.Path from to d label) (sym (direction_is direction));
})
sentence_of (commands.Levels from to direction label) is = inr (record {
  head = heads.Levels;
  plain = refl;
  contents = (tt, (from, (tt, (to, (tt, (direction_name direction, tt))))));
  allowed = (tt, (tt, (tt, (tt, (tt, (direction_allowed direction, tt))))));
  last = label;
  is = ap (λ (d : Direction). commands.Levels from to d label) (sym (direction_is direction));
})
sentence_of (commands.View target) is = inr (record { head = heads.View; plain = refl; contents = tt; allowed = tt; last = views.Element target; is = refl })
sentence_of commands.ViewNames is = inr (record { head = heads.View; plain = refl; contents = tt; allowed = tt; last = views.Names; is = refl })
sentence_of commands.ViewIndexes is = inr (record { head = heads.View; plain = refl; contents = tt; allowed = tt; last = views.Indexes; is = refl })
sentence_of (commands.Query query) is = absurd is
sentence_of (commands.Mutate reading mutation) is = absurd is

pub sentence_parts : (command : Command) → (sentence : Sentence command)
    → parts_of command ≡ Exactly (word_of sentence.head) ∷ tail_parts sentence.head sentence.contents sentence.last
sentence_parts command sentence = ap parts_of sentence.is ∙ command_parts sentence.head sentence.contents sentence.last sentence.plain sentence.allowed

-- ---- what readers have read

-- the command whose symbols were read, and what stands last
pub spells_read : (head : Head) (contents : Contents (production head)) (last : LastContent head) (bytes rest : List ℕ)
    → ReadsAll (production head) contents bytes rest → LastOf head last rest → SpellsAfter (command_of head contents last) head bytes
spells_read head contents last bytes rest reads made =
    read_follows (production head) contents (IsLastOf (command_of head contents last) head) bytes rest reads (last, refl, made)

-- Its parts are within their bounds.
pub read_keeps : (head : Head) → IsPlain head → (contents : Contents (production head)) (last : LastContent head) (bytes rest : List ℕ)
    → ReadsAll (production head) contents bytes rest → AllByRecursion IsBounded (last_parts (last_part head) last) → KeepsBounds (command_of head contents last)
read_keeps head plain contents last bytes rest reads within =
    subst (AllByRecursion IsBounded) (sym (command_parts head contents last plain (read_allowed (production head) contents bytes rest reads)))
    (tt, read_bounded (production head) contents bytes rest reads (last_parts (last_part head) last) within)

-- A command but a query keeps its bounds, whatever bytes spell it.
pub plain_keeps : (head : Head) → IsPlain head → (command : Command) (rest bytes : List ℕ) → SpellsAfter command head rest → KeepsBounds command
    → KeepsTail command bytes
plain_keeps head plain command rest bytes spells keeps =
    let spelled = contents_of_spelled command head rest spells in
    keeps_command command (subst IsCommand (sym spelled.is) (is_command head spelled.contents spelled.last plain)) keeps
  where
    keeps_command : (command : Command) → IsCommand command → KeepsBounds command → KeepsTail command bytes
    keeps_command (commands.Query query) is keeps = absurd is
    keeps_command (commands.Mutate reading mutation) is keeps = absurd is
    keeps_command command is keeps = keeps

-- a query after its word
pub query_spelled : (command : Command) (bytes rest : List ℕ) → TakesWord head_words bytes heads.Query rest → IsKeptQuery command rest → KeepsTail command bytes
query_spelled command bytes rest (run, cut, is) kept = keeps_query command (query_is_asked command rest (query_of_kept command rest kept))
    (run, rest, cut.bytes_are, entry_word (run, heads.Query) (lookup_in head_words run heads.Query is), kept)
  where
    keeps_query : (command : Command) → IsAsked command → Then (Exactly (codes "g")) (IsKeptQuery command) bytes → KeepsTail command bytes
    keeps_query (commands.Query query) is kept = kept
    keeps_query (commands.Mutate reading mutation) is kept = kept
    keeps_query command is kept = absurd is

-- ---- the form of a command: its names are names of at most 48 bytes, and its values ones that a store may keep

-- the part is within its bounds, and some bytes are it
abbrev IsSpelled : Part → Type 0
IsSpelled part = IsBounded part × ((bytes : List ℕ) × IsPart part bytes)

all_spelled : (parts : List Part) (bytes : List ℕ) → IsMadeOf parts bytes → AllByRecursion IsBounded parts → AllByRecursion IsSpelled parts
all_spelled [] bytes made within = tt
all_spelled (part ∷ parts) bytes (prefix, rest, whole, part_is, made) within = ((within.0, (prefix, part_is)), all_spelled parts rest made within.1)

short_name : (name : List ℕ) → IsSpelled (Name name) → IsShortName name
short_name name (within, (bytes, (same, is))) = (is, within)

pairs_form : (pairs : List Pair) → AllByRecursion IsSpelled (pairs_to_end pairs) → ArePairs pairs
pairs_form [] all = tt
pairs_form (pair ∷ pairs) all = (short_name pair.key all.1.0, all.1.1.1.0.0, pairs_form pairs all.1.1.1.1)

maybe_form : (name : Option (List ℕ)) → AllByRecursion IsSpelled (name_to_end name) → IsMaybeName name
maybe_form None all = tt
maybe_form (Some name) all = short_name name all.1.0

-- the parts after those of an element
after_element : (target : Target) (more : List Part) (word : List ℕ) → AllByRecursion IsSpelled (((Exactly word ∷ Gap ∷ []) ++ target_parts target) ++ more)
    → AllByRecursion IsSpelled more
after_element (targets.Node id) more word all = all.1.1.1.1.1
after_element (targets.Edge id) more word all = all.1.1.1.1.1

parts_form : (command : Command) → IsCommand command → AllByRecursion IsSpelled (parts_of command) → HasForm command
parts_form (commands.Node label pairs) is all = (short_name label all.1.1.0, pairs_form pairs all.1.1.1)
parts_form (commands.Edge from label to pairs) is all = (short_name label all.1.1.1.1.0, pairs_form pairs all.1.1.1.1.1.1.1)
parts_form (commands.Set target key value) is all =
    let later = after_element target (Gap ∷ Name key ∷ Gap ∷ Written value ∷ Blanks ∷ []) (codes "set") all in
    (short_name key later.1.0, later.1.1.1.0.0)
parts_form (commands.Unset target key) is all =
    let later = after_element target (Gap ∷ Name key ∷ Blanks ∷ []) (codes "unset") all in
    short_name key later.1.0
parts_form (commands.Index label key) is all = (short_name label all.1.1.0, short_name key all.1.1.1.1.0)
parts_form (commands.Find label key value) is all = (short_name label all.1.1.0, short_name key all.1.1.1.1.0, all.1.1.1.1.1.1.0.0)
parts_form (commands.Expand id direction label) is all = short_name label all.1.1.1.1.1.1.0
parts_form (commands.Degree id direction label) is all = maybe_form label all.1.1.1.1.1
parts_form (commands.Path from to direction label) is all = maybe_form label all.1.1.1.1.1.1.1
parts_form (commands.Levels from to direction label) is all = maybe_form label all.1.1.1.1.1.1.1
parts_form (commands.Mutate reading mutation) is all = absurd is
parts_form command is all = tt

-- A command that a line spells has its form.
pub spelled_form : (line : List ℕ) (command : Command) → Spells line command → HasForm command
spelled_form line command (blanks, bytes, whole, are, tail) = tail_form command bytes tail
  where
    tail_form : (command : Command) (bytes : List ℕ) → IsKeptTail command bytes → HasForm command
    tail_form (commands.Query query) bytes tail = tt
    tail_form (commands.Mutate reading mutation) bytes (word, rest, same, word_is, kept) = query_form (commands.Mutate reading mutation) rest kept
    tail_form command bytes tail = parts_form command tt (all_spelled (parts_of command) bytes tail.0 tail.1)
