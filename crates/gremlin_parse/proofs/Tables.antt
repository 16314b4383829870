-- A word of a table is the run of name bytes at the head: one word, or a stop after its longest prefix.
use Rattle.std.proofs.Common.{◌≡◌, ◌≤◌, ◌+◌, ◌-◌, ◌⊎◌, inl, inr, ℕ, suc, zero, max, nat_eq, cond, Bool, true, false}
use Rattle.std.proofs.Common.{not, ◌&&◌, Some, None, List, [], ◌∷◌, ◌++◌, length, map, take, drop, refl, sym, ap, ◌∙◌}
use Rattle.std.proofs.Common.{subst, ⊎_elim, append_assoc, length-append, arith}
use Rattle.std.specs.List.{AllByRecursion}
use Rattle.std.specs.Cmp.Lexicographic.{pointwise, same_text, other_text}
use Rattle.std.proofs.lemmas.Bool.{cases_Bool}
use Rattle.std.proofs.lemmas.Bool.Decides.{nat_tests}
use borrow.Author.Tests.{eqb-true}
use Rattle.plain_graph.specs.Names.{is_name_byte}
use Rattle.gremlin_parse.specs.Faults.{EndsRun}
use Rattle.gremlin_parse.specs.Reading.{first_byte, Passes, CutsRun, StopsBefore}
use Rattle.gremlin_parse.specs.Keywords.{Entry, lookup, InTable, common, reach, whole_word, TakesWord, LeavesTable, ThenWord}
use Rattle.gremlin_parse.proofs.Runs.{both, turned, Halts, run_is_unique, EndsRun-first_byte}
use Rattle.gremlin_parse.proofs.Stops.{Continues}

abbrev pub is_word : List ℕ → Bool
is_word [] = true
is_word (b ∷ bytes) = is_name_byte b && is_word bytes

pub word_passes : (word : List ℕ) → is_word word ≡ true → Passes is_name_byte word
word_passes [] is = tt
word_passes (b ∷ word) is = let both = both (is_name_byte b) (is_word word) is in (both.0, word_passes word both.1)

ends_clash : (c : ℕ) (bytes : List ℕ) → EndsRun is_name_byte bytes → first_byte bytes ≡ Some c → is_name_byte c ≡ true → ⊥
ends_clash c [] ends first is = cc
ends_clash c (b ∷ bytes) ends first is =
    let same : b ≡ c = cc in
    let clash : true ≡ false = sym is ∙ ap is_name_byte (sym same) ∙ ends in cc

common_more : (b c : ℕ) (word run : List ℕ) → b ≡ c → common (b ∷ word) (c ∷ run) ≡ 1 + common word run
common_more b c word run same = grind (arith, nat_tests)

-- A word of which no more than the read bytes stand there, and which goes on as the bytes do, is the run.
is_run : (read run_left rest more word after : List ℕ) → Passes is_name_byte (read ++ run_left) → EndsRun is_name_byte rest → Passes is_name_byte word
    → EndsRun is_name_byte after → word ++ after ≡ read ++ more → first_byte more ≡ first_byte (run_left ++ rest) → common word (read ++ run_left) ≤ length read
    → word ≡ read ++ run_left
is_run [] [] rest more [] after run ends passes stops whole first few = refl
is_run [] (c ∷ run_left) rest more [] after run ends passes stops whole first few = absurd (ends_clash c after stops (ap first_byte whole ∙ first) run.0)
is_run [] [] rest more (b ∷ word) after run ends passes stops whole first few = absurd (ends_clash b rest ends (sym first ∙ sym (ap first_byte whole)) passes.0)
is_run [] (c ∷ run_left) rest more (b ∷ word) after run ends passes stops whole first few =
    let one : first_byte (b ∷ (word ++ after)) ≡ first_byte more = ap first_byte whole in
    let same : b ≡ c = cc in
    let long = common_more b c word run_left same in
    absurd (omega (arith, long))
is_run (r ∷ read) run_left rest more [] after run ends passes stops whole first few = absurd (ends_clash r after stops (ap first_byte whole) run.0)
is_run (r ∷ read) run_left rest more (b ∷ word) after run ends passes stops whole first few =
    let head : b ≡ r = cc in
    let tails : word ++ after ≡ read ++ more = cc in
    let long = common_more b r word (read ++ run_left) head in
    let rest_is = is_run read run_left rest more word after run.1 ends passes.1 stops tails first (omega (arith, long)) in
    (λ i. head i ∷ rest_is i)

common_within : (word run : List ℕ) → common word run ≤ length run
common_within [] run = omega arith
common_within (b ∷ word) [] = omega arith
common_within (b ∷ word) (c ∷ run) = within (common_within word run) (nat_eq c b)
  where
    within : common word run ≤ length run → (t : Bool) → cond t (1 + common word run) 0 ≤ length (c ∷ run)
    within after true = omega arith
    within after false = omega arith

-- what the two have in common, and the rest of the word
common_prefix : (word run : List ℕ) → (more : List ℕ) × (word ≡ take (common word run) run ++ more)
common_prefix [] run = ([], take_zero run)
  where
    take_zero : (list : List ℕ) → [] ≡ take 0 list ++ []
    take_zero [] = refl
    take_zero (x ∷ list) = refl
common_prefix (b ∷ word) [] = (b ∷ word, refl)
common_prefix (b ∷ word) (c ∷ run) = prefix (common_prefix word run) (nat_eq c b) refl
  where
    prefix : (more : List ℕ) × (word ≡ take (common word run) run ++ more) → (t : Bool) → nat_eq c b ≡ t → (more : List ℕ)
        × (b ∷ word ≡ take (cond t (1 + common word run) 0) (c ∷ run) ++ more)
    prefix (more, is) true same =
        let head = eqb-true c b same in
        let next : suc (common word run) ≡ 1 + common word run = omega arith in
        let both : b ∷ word ≡ c ∷ (take (common word run) run ++ more) = (λ i. sym head i ∷ is i) in
        (more, both ∙ ap (λ n. take n (c ∷ run) ++ more) next)
    prefix (more, is) false same = (b ∷ word, refl)

take_drop : (n : ℕ) (list : List ℕ) → take n list ++ drop n list ≡ list
take_drop zero [] = refl
take_drop zero (x ∷ list) = refl
take_drop (suc n) [] = refl
take_drop (suc n) (x ∷ list) = ap (λ rest. x ∷ rest) (take_drop n list)

take_length : (n : ℕ) (list : List ℕ) → n ≤ length list → length (take n list) ≡ n
take_length zero [] within = refl
take_length zero (x ∷ list) within = refl
take_length (suc n) [] within = absurd (omega arith)
take_length (suc n) (x ∷ list) within = let after = take_length n list (omega arith) in omega (arith, after)

take_whole : (run rest : List ℕ) → take (length run) (run ++ rest) ≡ run
take_whole [] [] = refl
take_whole [] (x ∷ rest) = refl
take_whole (b ∷ run) rest = ap (λ list. b ∷ list) (take_whole run rest)

common_same : (word : List ℕ) → common word word ≡ length word
common_same [] = refl
common_same (b ∷ word) = let after = common_same word in let here = common_more b b word word refl in omega (arith, after, here)

-- What ends a run is no part of what a word has in common with it.
common_run : (word run rest : List ℕ) → Passes is_name_byte word → EndsRun is_name_byte rest → common word (run ++ rest) ≡ common word run
common_run [] run rest passes ends = refl
common_run (b ∷ word) [] [] passes ends = refl
common_run (b ∷ word) [] (c ∷ rest) passes ends = other (nat_eq c b) refl
  where
    other : (t : Bool) → nat_eq c b ≡ t → cond t (1 + common word rest) 0 ≡ 0
    other true same = let clash : false ≡ true = sym ends ∙ ap is_name_byte (eqb-true c b same) ∙ passes.0 in cc
    other false differs = refl
common_run (b ∷ word) (c ∷ run) rest passes ends = ap (λ n. cond (nat_eq c b) (1 + n) 0) (common_run word run rest passes.1 ends)

pub pointwise_same : (word : List ℕ) → pointwise nat_eq word word ≡ true
pointwise_same word = ⊎_elim (λ (same : pointwise nat_eq word word ≡ true). same)
    (λ (other : pointwise nat_eq word word ≡ false). absurd (other_text word word (sym other) refl)) (cases_Bool (pointwise nat_eq word word))

module _ {K : Type 0} where
  -- Each entry passes a test, which computes over the table.
  abbrev pub all_pass : (Entry K → Bool) → List (Entry K) → Bool
  all_pass test [] = true
  all_pass test (first ∷ table) = test first && all_pass test table

  -- No word stands twice.
  abbrev pub are_distinct : List (Entry K) → Bool
  are_distinct [] = true
  are_distinct (first ∷ table) = all_pass (λ entry. not (pointwise nat_eq first.0 entry.0)) table && are_distinct table

  abbrev pub is_word_table : List (Entry K) → Bool
  is_word_table table = all_pass (λ entry. is_word entry.0) table && are_distinct table

  pub passes_in : (test : Entry K → Bool) (table : List (Entry K)) → all_pass test table ≡ true → (entry : Entry K) → InTable entry table → test entry ≡ true
  passes_in test [] all entry within = absurd within
  passes_in test (first ∷ table) all entry within =
      let two = both (test first) (all_pass test table) all in
      ⊎_elim (λ (same : entry ≡ first). ap test same ∙ two.0) (λ (later : InTable entry table). passes_in test table two.1 entry later) within

  pub all_of : (P : Entry K → Type 0) (table : List (Entry K)) → ((entry : Entry K) → InTable entry table → P entry) → AllByRecursion P table
  all_of P [] each = tt
  all_of P (first ∷ table) each = (each first (inl refl), all_of P table (λ entry within. each entry (inr within)))

  found_in : (table : List (Entry K)) → are_distinct table ≡ true → (entry : Entry K) → InTable entry table → lookup table entry.0 ≡ Some entry.1
  found_in [] distinct entry within = absurd within
  found_in (first ∷ table) distinct entry within =
      let two = both (all_pass (λ (e : Entry K). not (pointwise nat_eq first.0 e.0)) table) (are_distinct table) distinct in
      ⊎_elim
      (λ (same : entry ≡ first). subst (λ (e : Entry K). lookup (first ∷ table) e.0 ≡ Some e.1) (sym same)
      (ap (λ t. cond t (Some first.1) (lookup table first.0)) (pointwise_same first.0)))
      (λ (later : InTable entry table).
      let other = turned (pointwise nat_eq first.0 entry.0) (passes_in (λ (e : Entry K). not (pointwise nat_eq first.0 e.0)) table two.0 entry later) in
      ap (λ t. cond t (Some first.1) (lookup table entry.0)) other ∙ found_in table two.1 entry later)
      within

  pub record IsWordTable (table : List (Entry K)) : Type 0 where
    pub words : AllByRecursion (λ (entry : Entry K). is_word entry.0 ≡ true) table
    pub named : AllByRecursion (λ (entry : Entry K). lookup table entry.0 ≡ Some entry.1) table

  pub word_table : (table : List (Entry K)) → is_word_table table ≡ true → IsWordTable table
  word_table table is =
      let two = both (all_pass (λ (e : Entry K). is_word e.0) table) (are_distinct table) is in
      record {
        words = all_of (λ (e : Entry K). is_word e.0 ≡ true) table (λ entry within. passes_in (λ (e : Entry K). is_word e.0) table two.0 entry within);
        named = all_of (λ (e : Entry K). lookup table e.0 ≡ Some e.1) table (λ entry within. found_in table two.1 entry within);
      }

  pub all_in : (P : Entry K → Type 0) (table : List (Entry K)) (entry : Entry K) → AllByRecursion P table → InTable entry table → P entry
  all_in P [] entry all within = absurd within
  all_in P (first ∷ table) entry all within = ⊎_elim (λ (same : entry ≡ first). subst P (sym same) all.0)
      (λ (later : InTable entry table). all_in P table entry all.1 later) within

  pub lookup_in : (table : List (Entry K)) (run : List ℕ) (kind : K) → lookup table run ≡ Some kind → InTable (run, kind) table
  lookup_in [] run kind is = cc
  lookup_in (first ∷ table) run kind is = found (lookup_in table run kind) (pointwise nat_eq first.0 run) refl is
    where
      found : (lookup table run ≡ Some kind → InTable (run, kind) table) → (t : Bool) → pointwise nat_eq first.0 run ≡ t
          → cond t (Some first.1) (lookup table run) ≡ Some kind → InTable (run, kind) (first ∷ table)
      found later true same here =
          let word = same_text first.0 run (sym same) in
          let kind_is : first.1 ≡ kind = cc in
          inl (λ i. (sym word i, sym kind_is i))
      found later false same here = inr (later here)

  one_kind : (table : List (Entry K)) → IsWordTable table → (run : List ℕ) (kind : K) → lookup table run ≡ Some kind → (entry : Entry K) → InTable entry table
      → run ≡ entry.0 → entry.1 ≡ kind
  one_kind table words run kind is entry within same =
      let named : lookup table entry.0 ≡ Some entry.1 = all_in (λ (e : Entry K). lookup table e.0 ≡ Some e.1) table entry words.named within in
      let both : Some entry.1 ≡ Some kind = sym named ∙ ap (lookup table) (sym same) ∙ is in
      cc

  -- After the word that stands there, the bytes are of its language.
  pub ThenWord-after : (table : List (Entry K)) → IsWordTable table → (After : K → List ℕ → Type 0) → ((kind : K) → Halts is_name_byte (After kind))
      → (bytes rest : List ℕ) (kind : K) → TakesWord table bytes kind rest → ThenWord table After bytes → After kind rest
  ThenWord-after table words After ends bytes rest kind (run, cut, is) (entry, within, (prefix, more, whole, front_is, after)) =
      let passes : Passes is_name_byte entry.0 = word_passes entry.0 (all_in (λ (e : Entry K). is_word e.0 ≡ true) table entry words.words within) in
      let same = run_is_unique is_name_byte run prefix rest more cut.passes (subst (Passes is_name_byte) (sym front_is) passes) cut.ends
      (ends entry.1 more after) (sym cut.bytes_are ∙ whole) in
      let kind_is = one_kind table words run kind is entry within (same.0 ∙ front_is) in
      subst (After kind) (sym same.1) (subst (λ k. After k more) kind_is after)

  pub continues_table : (table : List (Entry K)) → IsWordTable table → (After : K → List ℕ → Type 0) → ((kind : K) → Halts is_name_byte (After kind))
      → (bytes run rest : List ℕ) (kind : K) → CutsRun is_name_byte bytes run rest → lookup table run ≡ Some kind
      → Continues (ThenWord table After) run (After kind) rest
  continues_table table words After ends bytes run rest kind cut is = record {
    onto = λ more after. ((run, kind), lookup_in table run kind is, (run, more, refl, refl, after));
    back = λ more same whole. ThenWord-after table words After ends (run ++ more) more kind
        (run, record { bytes_are = refl; passes = cut.passes; ends = EndsRun-first_byte is_name_byte rest more same cut.ends }, is) whole;
  }

  -- a word that has as much in common with the run as any
  pub record Reaches (table : List (Entry K)) (run : List ℕ) : Type 0 where
    pub entry : Entry K
    pub within : InTable entry table
    pub is : common entry.0 run ≡ reach table run

  reaches : (first : Entry K) (table : List (Entry K)) (run : List ℕ) → Reaches (first ∷ table) run
  reaches first [] run = record { entry = first; within = inl refl; is = omega arith }
  reaches first (second ∷ table) run =
      let after = reaches second table run in
      ⊎_elim
      (λ (less : common first.0 run ≤ reach (second ∷ table) run). let here : Reaches (first ∷ second ∷ table) run = record {
        entry = after.entry;
        within = inr
            after.within;
        is = omega (arith, after.is);
      } in here)
      (λ (more : reach (second ∷ table) run ≤ common first.0 run). let here : Reaches (first ∷ second ∷ table) run = record {
        entry = first;
        within = inl refl;
        is = omega arith;
      } in here)
      (either (common first.0 run) (reach (second ∷ table) run))
    where
      either : (m n : ℕ) → (m ≤ n) ⊎ (n ≤ m)
      either zero n = inl (omega arith)
      either (suc m) zero = inr (omega arith)
      either (suc m) (suc n) = ⊎_elim (λ (le : m ≤ n). inl (omega arith)) (λ (ge : n ≤ m). inr (omega arith)) (either m n)

  reach_most : (table : List (Entry K)) (run : List ℕ) (entry : Entry K) → InTable entry table → common entry.0 run ≤ reach table run
  reach_most [] run entry within = absurd within
  reach_most (first ∷ table) run entry within =
      ⊎_elim
      (λ (same : entry ≡ first). let is : common entry.0 run ≡ common first.0 run = ap (λ (e : Entry K). common e.0 run) same in omega (arith, is))
      (λ (later : InTable entry table). let le = reach_most table run entry later in omega (arith, le))
      within

  reach_within : (table : List (Entry K)) (run : List ℕ) → reach table run ≤ length run
  reach_within [] run = omega arith
  reach_within (first ∷ table) run = let one = common_within first.0 run in let two = reach_within table run in omega (arith, one, two)

  reach_run : (table : List (Entry K)) → AllByRecursion (λ (entry : Entry K). is_word entry.0 ≡ true) table → (run rest : List ℕ) → EndsRun is_name_byte rest
      → reach table (run ++ rest) ≡ reach table run
  reach_run [] words run rest ends = refl
  reach_run (first ∷ table) words run rest ends =
      let one = common_run first.0 run rest (word_passes first.0 words.0) ends in
      let two = reach_run table words.1 run rest ends in
      (λ i. max (one i) (two i))

  -- A word that is the run at the head stands whole there.
  pub whole_word_of : (table : List (Entry K)) → IsWordTable table → (bytes rest : List ℕ) (kind : K) → TakesWord table bytes kind rest
      → whole_word table bytes ≡ Some kind
  whole_word_of table words bytes rest kind (run, cut, is) =
      let most = reach_most table run (run, kind) (lookup_in table run kind is) in
      let all = common_same run in
      let within = reach_within table run in
      let n : reach table run ≡ length run = omega (arith, most, all, within) in
      let reached : reach table bytes ≡ length run = ap (reach table) cut.bytes_are ∙ reach_run table words.words run rest cut.ends ∙ n in
      let token : take (reach table bytes) bytes ≡ run = ap (λ k. take k bytes) reached ∙ ap (take (length run)) cut.bytes_are ∙ take_whole run rest in
      ap (lookup table) token ∙ is

  -- a word that stands whole at the head, and what is after it
  pub record StandsWhole (table : List (Entry K)) (bytes : List ℕ) : Type 0 where
    pub entry : Entry K
    pub within : InTable entry table
    pub rest : List ℕ
    pub bytes_are : bytes ≡ entry.0 ++ rest

  pub stands_whole : (table : List (Entry K)) (bytes : List ℕ) (kind : K) → whole_word table bytes ≡ Some kind → StandsWhole table bytes
  stands_whole table bytes kind is = record {
    entry = (take (reach table bytes) bytes, kind);
    within = lookup_in table (take (reach table bytes) bytes) kind is;
    rest = drop (reach table bytes) bytes;
    bytes_are = sym (take_drop (reach table bytes) bytes);
  }

  -- where reading stops at no word of the table
  pub stops_in_table : (first : Entry K) (later : List (Entry K)) → IsWordTable (first ∷ later) → (After : K → List ℕ → Type 0)
      → ((kind : K) → Halts is_name_byte (After kind)) → ((kind : K) → (line : List ℕ) × After kind line) → (bytes : List ℕ) (left : ℕ)
      → LeavesTable (first ∷ later) bytes left → StopsBefore (ThenWord (first ∷ later) After) bytes left
  stops_in_table first later words After ends some bytes left (run, rest, cut, none, left_is) =
      let table : List (Entry K) = first ∷ later in
      let n : ℕ = reach table run in
      let within = reach_within table run in
      let read : List ℕ = take n run in
      let unread : List ℕ = drop n run ++ rest in
      let cut_run_is : read ++ drop n run ≡ run = take_drop n run in
      let bytes_are : bytes ≡ read ++ unread = cut.bytes_are ∙ ap (λ r. r ++ rest) (sym cut_run_is) ∙ append_assoc read (drop n run) rest in
      let read_len : length read ≡ n = take_length n run within in
      let len : length bytes ≡ length read + length unread = ap length bytes_are ∙ length-append read unread in
      let most = reaches first later run in
      let prefix = common_prefix most.entry.0 run in
      let word_is : most.entry.0 ≡ read ++ prefix.0 = prefix.1 ∙ ap (λ k. take k run ++ prefix.0) most.is in
      let line = some most.entry.1 in
      record {
        read = read;
        unread = unread;
        bytes_are = bytes_are;
        left_is = omega (arith, left_is, read_len, len);
        viable = (
          prefix.0 ++ line.0,
          (
            most.entry,
            most.within,
            (
              most.entry.0,
              line.0,
              sym (append_assoc read prefix.0 line.0) ∙ ap (λ w. w ++ line.0)
                  (sym word_is),
              refl,
              line.1,
            ),
          ),
        );
        none = λ more same (entry, is_in, (word, after, whole, word_is, is)).
            let passes : Passes is_name_byte entry.0 = word_passes entry.0 (all_in (λ (e : Entry K). is_word e.0 ≡ true) table entry words.words is_in) in
            let few : common entry.0 (read ++ drop n run) ≤ length read = let le = reach_most table run entry is_in in
            let e : common entry.0 (read ++ drop n run) ≡ common entry.0 run = ap (common entry.0) cut_run_is in omega (arith, le, e, read_len) in
            let is_the_run : entry.0 ≡ read ++ drop n run = is_run read (drop n run) rest more entry.0 after
            (subst (Passes is_name_byte) (sym cut_run_is) cut.passes) cut.ends passes (ends entry.1 after is)
            (ap (λ w. w ++ after) (sym word_is) ∙ sym whole) same few in
            let named : lookup table entry.0 ≡ Some entry.1 = all_in (λ (e : Entry K). lookup table e.0 ≡ Some e.1) table entry words.named is_in in
            let clash : None ≡ Some entry.1 = sym none ∙ ap (lookup table) (sym cut_run_is ∙ sym is_the_run) ∙ named in
            cc;
      }

  -- Where no word of the table stands, nothing of it is spelled.
  pub no_word : (table : List (Entry K)) → IsWordTable table → (After : K → List ℕ → Type 0) → ((kind : K) → Halts is_name_byte (After kind))
      → (bytes : List ℕ) (left : ℕ) → LeavesTable table bytes left → ¬ ThenWord table After bytes
  no_word table words After ends bytes left (run, rest, cut, none, left_is) = λ (entry, within, (prefix, more, whole, front_is, after)).
      let passes : Passes is_name_byte entry.0 = word_passes entry.0 (all_in (λ (e : Entry K). is_word e.0 ≡ true) table entry words.words within) in
      let same = run_is_unique is_name_byte run prefix rest more cut.passes (subst (Passes is_name_byte) (sym front_is) passes) cut.ends
      (ends entry.1 more after) (sym cut.bytes_are ∙ whole) in
      let named : lookup table entry.0 ≡ Some entry.1 = all_in (λ (e : Entry K). lookup table e.0 ≡ Some e.1) table entry words.named within in
      let clash : None ≡ Some entry.1 = sym none ∙ ap (lookup table) (same.0 ∙ front_is) ∙ named in
      cc

  -- a word of the table with what is after it, in two languages
  pub record Agrees (One Two : K → List ℕ → Type 0) : Type 0 where
    pub kind : K
    pub rest : List ℕ
    pub one : One kind rest
    pub two : Two kind rest

  -- Two languages of the same words agree on the word and on what is after it.
  pub words_agree : (table : List (Entry K)) → IsWordTable table → (One Two : K → List ℕ → Type 0) → ((kind : K) → Halts is_name_byte (One kind))
      → ((kind : K) → Halts is_name_byte (Two kind)) → (bytes : List ℕ) → ThenWord table One bytes → ThenWord table Two bytes → Agrees One Two
  words_agree table words One Two ends stops bytes (entry, within, (prefix, rest, whole, front_is, after)) two =
      let passes : Passes is_name_byte entry.0 = word_passes entry.0 (all_in (λ (e : Entry K). is_word e.0 ≡ true) table entry words.words within) in
      let named : lookup table entry.0 ≡ Some entry.1 = all_in (λ (e : Entry K). lookup table e.0 ≡ Some e.1) table entry words.named within in
      let takes : TakesWord table bytes entry.1 rest = (
        entry.0,
        record {
          bytes_are = whole ∙ ap (λ w. w ++ rest) front_is;
          passes = passes;
          ends = ends entry.1
              rest after;
        },
        named,
      ) in
      record { kind = entry.1; rest = rest; one = after; two = ThenWord-after table words Two stops bytes rest entry.1 takes two }

  abbrev pub forget : Entry K → Entry (Unit {0})
  forget entry = (entry.0, tt)

  lookup-forget : (table : List (Entry K)) (run : List ℕ) → lookup table run ≡ None → lookup (map forget table) run ≡ None
  lookup-forget [] run none = refl
  lookup-forget (first ∷ table) run none = here (lookup-forget table run) (pointwise nat_eq first.0 run) none
    where
      here : (lookup table run ≡ None → lookup (map forget table) run ≡ None) → (t : Bool) → cond t (Some first.1) (lookup table run) ≡ None
          → cond t (Some tt) (lookup (map forget table) run) ≡ None
      here later true is = cc
      here later false is = later is

  reach-forget : (table : List (Entry K)) (run : List ℕ) → reach (map forget table) run ≡ reach table run
  reach-forget [] run = refl
  reach-forget (first ∷ table) run = ap (max (common first.0 run)) (reach-forget table run)

  -- A run that is no word of a table is none of its plain words.
  pub leaves_plain : (table : List (Entry K)) (bytes : List ℕ) (left : ℕ) → LeavesTable table bytes left → LeavesTable (map forget table) bytes left
  leaves_plain table bytes left (run, rest, cut, none, left_is) =
      (run, rest, cut, lookup-forget table run none, left_is ∙ ap (λ n. length bytes - n) (sym (reach-forget table run)))
