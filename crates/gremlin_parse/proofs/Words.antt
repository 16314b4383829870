-- A word that a table was asked for, as a symbol of the grammar.
use Rattle.std.proofs.Common.{◌≡◌, inl, inr, ℕ, nat_eq, Bool, true, List, [], ◌∷◌, map, refl, sym, ap, ◌∙◌, subst}
use Rattle.std.specs.List.{AllByRecursion}
use Rattle.std.specs.Cmp.Lexicographic.{pointwise, same_text}
use Rattle.plain_graph.specs.declared.value.Value.TheVariants as values
use Rattle.gremlin_parse.specs.Keywords.{Entry, InTable, plain, TakesWord, LeavesTable}
use Rattle.gremlin_parse.specs.Symbols.{OneWord, AnyValue, Reads, Leaves, truth_words}
use Rattle.gremlin_parse.specs.Values.{truth_word}
use Rattle.gremlin_parse.specs.Stopping.{StopsWith}
use Rattle.gremlin_parse.specs.declared.stop.Stop.{Stop}
use Rattle.gremlin_parse.specs.declared.stop.Stop.TheVariants as stops
use Rattle.gremlin_parse.proofs.Tables.{all_pass, all_of, passes_in, lookup_in, forget, leaves_plain}

module _ {K : Type 0} (name : K → List ℕ) where
  -- Each word of the table is the name of what it stands for.
  abbrev pub AreNamed : List (Entry K) → Type 0
  AreNamed table = AllByRecursion (λ (e : Entry K). e.0 ≡ name e.1) table

  -- by a test that computes over the table
  pub are_named : (table : List (Entry K)) → all_pass (λ (e : Entry K). pointwise nat_eq e.0 (name e.1)) table ≡ true → AreNamed table
  are_named table all = all_of (λ (e : Entry K). e.0 ≡ name e.1) table (λ entry within. same_text entry.0 (name entry.1)
      (sym (passes_in (λ (e : Entry K). pointwise nat_eq e.0 (name e.1)) table all entry within)))

  pub entry_named : (table : List (Entry K)) → AreNamed table → (entry : Entry K) → InTable entry table → entry.0 ≡ name entry.1
  entry_named [] named entry within = absurd within
  entry_named (first ∷ table) named entry (inl same) = ap (λ (e : Entry K). e.0) same ∙ named.0 ∙ ap (λ (e : Entry K). name e.1) (sym same)
  entry_named (first ∷ table) named entry (inr later) = entry_named table named.1 entry later

  name_in : (table : List (Entry K)) → AreNamed table → (run : List ℕ) (kind : K) → InTable (run, kind) table
      → InTable (name kind, tt) (plain (map (λ (e : Entry K). e.0) table))
  name_in [] named run kind within = absurd within
  name_in (first ∷ table) named run kind (inl same) = inl (λ i. ((ap (λ (e : Entry K). name e.1) same ∙ sym named.0) i, tt))
  name_in (first ∷ table) named run kind (inr later) = inr (name_in table named.1 run kind later)

  pub word_read : (table : List (Entry K)) → AreNamed table → (bytes rest : List ℕ) (kind : K) → TakesWord table bytes kind rest
      → Reads (OneWord (map (λ (e : Entry K). e.0) table)) (name kind) bytes rest
  word_read table named bytes rest kind (run, cut, is) =
      let within = lookup_in table run kind is in
      record {
        takes = record { prefix = run; bytes_are = cut.bytes_are; is = entry_named table named (run, kind) within; ends = (cut.passes, cut.ends) };
        allowed = name_in table named run kind within;
        bounded = tt;
      }

forget-plain : {K : Type 0} (table : List (Entry K)) → plain (map (λ (e : Entry K). e.0) table) ≡ map forget table
forget-plain [] = refl
forget-plain (first ∷ table) = ap (λ (t : List (Entry (Unit {0}))). (first.0, tt) ∷ t) (forget-plain table)

pub word_leaves : {K : Type 0} (table : List (Entry K)) (bytes : List ℕ) (stop : Stop) → StopsWith (LeavesTable table bytes) stop
    → Leaves (OneWord (map (λ (e : Entry K). e.0) table)) bytes stop
word_leaves table bytes stops.Memory leaves = leaves
word_leaves table bytes (stops.Syntax left) leaves = subst (λ t. LeavesTable t bytes left) (sym (forget-plain table)) (leaves_plain table bytes left leaves)
word_leaves table bytes (stops.Bad kind left) leaves = absurd leaves

-- a word for true or false, as a value
pub truth_read : (bytes rest : List ℕ) (truth : Bool) → TakesWord truth_words bytes truth rest → Reads AnyValue (values.Bool truth) bytes rest
truth_read bytes rest truth reads =
    let word = word_read truth_word truth_words (refl, (refl, tt)) bytes rest truth reads in
    record {
      takes = record { prefix = word.takes.prefix; bytes_are = word.takes.bytes_are; is = word.takes.is; ends = word.takes.ends.1 };
      allowed = tt;
      bounded = tt;
    }
