-- Lines that begin with a word of a table: where reading stops at the word, and after it.
use Rattle.std.proofs.Common.{◌≡◌, ℕ, Bool, true, List, ◌∷◌, ◌++◌, refl, sym, ap, ◌∙◌, subst}
use Rattle.plain_graph.specs.Names.{is_name_byte}
use Rattle.gremlin_parse.specs.Faults.{EndsRun}
use Rattle.gremlin_parse.specs.Keywords.{Entry, InTable, LeavesTable, TakesWord, ThenWord}
use Rattle.gremlin_parse.specs.Stopping.{Bads, IsStop, StopsWith}
use Rattle.gremlin_parse.specs.declared.bad_token.BadToken.{BadToken}
use Rattle.gremlin_parse.specs.declared.stop.Stop.{Stop}
use Rattle.gremlin_parse.specs.declared.stop.Stop.TheVariants as stops
use Rattle.gremlin_parse.proofs.Runs.{Halts}
use Rattle.gremlin_parse.proofs.Tables.{IsWordTable, ThenWord-after, continues_table, lookup_in, no_word, stops_in_table}
use Rattle.gremlin_parse.proofs.Symbols.{first_ends, first_fails}
use Rattle.gremlin_parse.proofs.Productions.{Goes}

-- Where no word begins with such a byte, no line does.
pub starts_halts : {K : Type 0} → (p : ℕ → Bool) (table : List (Entry K)) → ((entry : Entry K) → InTable entry table → first_fails p entry.0 ≡ true)
    → (After : K → List ℕ → Type 0) → Halts p (ThenWord table After)
starts_halts p table starts After = λ bytes (entry, within, (prefix, rest, whole, word_is, after)).
    subst (EndsRun p) (sym (whole ∙ ap (λ w. w ++ rest) word_is)) (first_ends p entry.0 rest (starts entry within))

-- a bad token after a word
abbrev pub BadWords : {K : Type 0} → List (Entry K) → (K → Bads) → Bads
BadWords table Bad kind left bytes = ThenWord table (λ word. Bad word kind left) bytes

module _ {K : Type 0} (first : Entry K) (later : List (Entry K)) (is_table : IsWordTable (first ∷ later)) (After : K → List ℕ → Type 0) (Bad : K → Bads)
    (ends : (word : K) → Halts is_name_byte (After word)) (bads_end : (kind : BadToken) (left : ℕ) (word : K) → Halts is_name_byte (Bad word kind left)) where
  pub goes_word : (word : K) (bytes rest : List ℕ) → (takes : TakesWord (first ∷ later) bytes word rest)
      → Goes (ThenWord (first ∷ later) After) (BadWords (first ∷ later) Bad) takes.0 (After word) (Bad word) rest
  goes_word word bytes rest (run, cut, is) =
      let here : TakesWord (first ∷ later) (run ++ rest) word rest = (run, record { bytes_are = refl; passes = cut.passes; ends = cut.ends }, is) in
      record {
        line = continues_table (first ∷ later) is_table After ends bytes run rest word cut is;
        onto = λ kind left bad. ((run, word), lookup_in (first ∷ later) run word is, (run, rest, refl, refl, bad));
        back = λ kind left bad. ThenWord-after (first ∷ later) is_table (λ other. Bad other kind left) (bads_end kind left) (run ++ rest) rest word here bad;
      }

  pub stop_at_word : ((word : K) → (line : List ℕ) × After word line) → (Lack : Type 0) (bytes : List ℕ) (stop : Stop)
      → StopsWith (LeavesTable (first ∷ later) bytes) stop → IsStop (ThenWord (first ∷ later) After) (BadWords (first ∷ later) Bad) Lack bytes stop
  stop_at_word line Lack bytes stops.Memory at = absurd at
  stop_at_word line Lack bytes (stops.Syntax left) at = (
    stops_in_table first later is_table After ends line bytes left at,
    λ kind place bad. no_word (first ∷ later) is_table (λ word. Bad word kind place) (bads_end kind place) bytes left at bad,
  )
  stop_at_word line Lack bytes (stops.Bad kind left) at = absurd at
