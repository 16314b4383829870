-- Whether an order has a key: the tokens from its name to the key's opening quote.
use Rattle.std.specs.Prelude.{ℕ, Bool, false, nat_eq, if◌then◌else◌, Option, Some, None}
use Rattle.std.specs.Prelude.{option_and_then, unwrap_or, List, [], ◌∷◌, codes}
use Rattle.gremlin_parse.specs.Grammar.{is_blank}
use Rattle.gremlin_parse.specs.Values.{is_quote}

-- the bytes after the blanks at the head
abbrev pub after_blanks : List ℕ → List ℕ
after_blanks [] = []
after_blanks (b ∷ bytes) = if is_blank b then after_blanks bytes else b ∷ bytes

-- the bytes after the token at the head and any blanks that follow it, if it stands there
abbrev pub after_token : List ℕ → List ℕ → Option (List ℕ)
after_token [] bytes = Some (after_blanks bytes)
after_token (b ∷ token) [] = None
after_token (b ∷ token) (c ∷ bytes) = if nat_eq c b then after_token token bytes else None

-- the bytes after the tokens, if they stand at the head, one after the other
abbrev pub after_tokens : List (List ℕ) → List ℕ → Option (List ℕ)
after_tokens [] bytes = Some bytes
after_tokens (token ∷ tokens) bytes =
    option_and_then (λ rest. after_tokens tokens rest) (after_token token bytes)

-- The bytes begin with one of the two quotes.
abbrev pub starts_quote : List ℕ → Bool
starts_quote [] = false
starts_quote (b ∷ bytes) = is_quote b

-- the tokens of an order up to the quoted key of its `by`
abbrev pub key_tokens : List (List ℕ)
key_tokens =
    codes "order" ∷ codes "(" ∷ codes ")" ∷ codes "." ∷ codes "by" ∷ codes "(" ∷ []

-- The order whose name begins the bytes has a key.
unfoldable pub has_key : List ℕ → Bool
has_key bytes = starts_quote (unwrap_or (after_tokens key_tokens bytes) [])
