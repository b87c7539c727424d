-- The query that the program `plan` reads: the first record of its input.
-- Document 01: "The program `plan` reads one query as a record of kind 20 (length 54 + 4 per hidden layer) and then the sheet";
-- "A query: root cell 4, depth 4, view 4 f, zoom f, hidden layers (layer × 65,536 + data type, 4 each)."
-- Definitions only; rests on the fields' and the walk's definitions and the declared types.
use Rattle.std.specs.Prelude.{Bool, cond, ◌&&◌, List, [], ◌∷◌, ℕ, zero, suc, ◌+◌, ◌-◌, ◌/◌, ◌%◌, length, leb, eqb, Result, Ok, Err}
use Rattle.std.proofs.lemmas.List.Edits.{sets}
use Rattle.fields.specs.Field.{uint_at, f64_at}
use Rattle.fields.specs.Head.{head_width}
use Rattle.walk.specs.Offsets.{length_at, kind_at}
use Rattle.plan_rules.specs.declared.SceneOptions.{SceneOptions}
use Rattle.plan_query.specs.declared.QueryRecord.{QueryRecord}
use Rattle.plan_query.specs.declared.QueryError.{QueryError}
use Rattle.plan_query.specs.declared.QueryError.TheVariants.{NoQuery, TooLong}

-- the bytes of a query without hidden layers
abbrev pub query_length : ℕ
query_length = 54

abbrev pub query_kind : ℕ
query_kind = 20

-- The first record is a whole query: its fixed bytes are there, its length is 54 + 4n and within the input, and its kind is 20.
unfoldable pub whole_query : List ℕ → Bool
whole_query s =
    leb query_length (length s) && leb query_length (length_at s 0) && leb (length_at s 0) (length s)
    && eqb ((length_at s 0 - query_length) % 4) 0
    && eqb (kind_at s 0) query_kind

-- "root cell 4, depth 4, view 4 f, zoom f", behind the record's length and kind
unfoldable pub options_at : List ℕ → SceneOptions
options_at s =
    record {
      root = uint_at 4 s head_width;
      depth = uint_at 4 s 10;
      view = record { min_x = f64_at s 14; min_y = f64_at s 22; max_x = f64_at s 30; max_y = f64_at s 38 };
      zoom = f64_at s 46;
    }

-- how many hidden layers there are
abbrev pub hidden_count : List ℕ → ℕ
hidden_count s = (length_at s 0 - query_length) / 4

-- so many hidden layers from an offset on
unfoldable pub layers_from : ℕ → List ℕ → ℕ → List ℕ
layers_from zero s at = []
layers_from (suc n) s at = uint_at 4 s at ∷ layers_from n s (at + 4)

-- "hidden layers (.. 4 each)", behind the zoom
abbrev pub hidden_layers : List ℕ → List ℕ
hidden_layers s = layers_from (hidden_count s) s query_length

-- the options, the number of hidden layers, and where the sheet begins
abbrev pub query_record : List ℕ → QueryRecord
query_record s = record { options = options_at s; hidden = hidden_count s; sheet = length_at s 0 }

-- The answer of a reading, and what it leaves in the lent hidden layers: "A first record that is no whole query prints `no query`";
-- a query with more hidden layers than are lent is too long.
unfoldable pub read_query : List ℕ → List ℕ → Result QueryRecord QueryError × List ℕ
read_query s hidden =
    cond (whole_query s)
    (cond (leb (hidden_count s) (length hidden))
    (Ok (query_record s), sets hidden 0 (hidden_layers s))
    (Err TooLong, hidden))
    (Err NoQuery, hidden)

-- Where the sheet of an input with or without a query begins.
unfoldable pub sheet_at : List ℕ → ℕ
sheet_at s = cond (whole_query s) (length_at s 0) 0
