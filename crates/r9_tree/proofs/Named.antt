-- The names of files are short texts, so each stat fits.
use Rattle.std.proofs.Common.{◌≡◌, refl, true, ◌<◌, ◌^◌, ◌+◌, ℕ, List, length, length-append, arith, sym, subst}
use Rattle.std.specs.Prelude.{codes, Result, Ok, Err, IfOk}
use Rattle.r9_wire.specs.declared.message.Stat.{Stat}
use Rattle.r9_wire.specs.View.{stat_of}
use Rattle.std.specs.Fmt.{decimal}
use Rattle.std.specs.Str.{IsUtf8, all_scalars, encode_utf8_all}
use Rattle.std.proofs.lemmas.Str.{IsUtf8-from_ascii}
use Rattle.std.proofs.lemmas.Fmt.{IsAscii-decimal, length-decimal-le}
use Rattle.model_files.specs.wire.Message as model
use Rattle.model_files.specs.wire.Spelling.{FitsStat, stat_body, stat_bytes, sized, qid_bytes}
use Rattle.model_files.specs.declared.tree.Kind.{Kind}
use Rattle.model_files.specs.declared.tree.Kind.TheVariants.{Device, Draw, New, Connection, Ctl, Data, Refresh, Mousein, Kbdin, Screen, Snarf, DeviceWctl, Wsys, Window, Cons, Consctl, Label, Mouse, Text, Wctl, Winid, Winname, Picture, Listed, Hwsize}
use Rattle.model_files.specs.tree.Node.{Node, row}
use Rattle.model_files.specs.tree.Tree.{stat_named}
use Rattle.r9_tree.specs.View.{IsName}

-- a text of the characters that stand for themselves
ascii : (name : List ℕ) → all_scalars name ≡ true → encode_utf8_all name ≡ name → IsUtf8 name
ascii name all same = (name, (all, same))

pub row_is_named : (kind : Kind) → IsName (row kind).name
unfolding row lib.Utf8.encode
row_is_named Device = record { utf8 = ascii _ refl refl; short = omega arith }
row_is_named Draw = record { utf8 = ascii _ refl refl; short = omega arith }
row_is_named New = record { utf8 = ascii _ refl refl; short = omega arith }
row_is_named Connection = record { utf8 = ascii _ refl refl; short = omega arith }
row_is_named Ctl = record { utf8 = ascii _ refl refl; short = omega arith }
row_is_named Data = record { utf8 = ascii _ refl refl; short = omega arith }
row_is_named Refresh = record { utf8 = ascii _ refl refl; short = omega arith }
row_is_named Mousein = record { utf8 = ascii _ refl refl; short = omega arith }
row_is_named Kbdin = record { utf8 = ascii _ refl refl; short = omega arith }
row_is_named Screen = record { utf8 = ascii _ refl refl; short = omega arith }
row_is_named Snarf = record { utf8 = ascii _ refl refl; short = omega arith }
row_is_named DeviceWctl = record { utf8 = ascii _ refl refl; short = omega arith }
row_is_named Wsys = record { utf8 = ascii _ refl refl; short = omega arith }
row_is_named Window = record { utf8 = ascii _ refl refl; short = omega arith }
row_is_named Cons = record { utf8 = ascii _ refl refl; short = omega arith }
row_is_named Consctl = record { utf8 = ascii _ refl refl; short = omega arith }
row_is_named Label = record { utf8 = ascii _ refl refl; short = omega arith }
row_is_named Mouse = record { utf8 = ascii _ refl refl; short = omega arith }
row_is_named Text = record { utf8 = ascii _ refl refl; short = omega arith }
row_is_named Wctl = record { utf8 = ascii _ refl refl; short = omega arith }
row_is_named Winid = record { utf8 = ascii _ refl refl; short = omega arith }
row_is_named Winname = record { utf8 = ascii _ refl refl; short = omega arith }
row_is_named Picture = record { utf8 = ascii _ refl refl; short = omega arith }
row_is_named Listed = record { utf8 = ascii _ refl refl; short = omega arith }
row_is_named Hwsize = record { utf8 = ascii _ refl refl; short = omega arith }

pub decimal_is_named : (n : ℕ) → n < 2 ^ 32 → IsName (decimal n)
decimal_is_named n small = record {
  utf8 = IsUtf8-from_ascii (decimal n) (IsAscii-decimal n (omega arith));
  short = length-decimal-le 10 n (omega arith) (omega arith) (omega arith);
}

pub length_of_stat : (name : List ℕ) (node : Node) → length (stat_body (stat_named name node)) ≡ 59 + length name
unfolding stat_body stat_named sized qid_bytes
length_of_stat name node = simp length-append (omega arith)

sized_len : (bytes : List ℕ) → length (sized bytes) ≡ 2 + length bytes
unfolding sized
sized_len bytes = omega arith

pub named_fits : (name : List ℕ) (node : Node) → IsName name → FitsStat (stat_named name node)
unfolding stat_named lib.Utf8.encode
named_fits name node is = (
  (is.utf8, omega (arith, is.short)),
  (ascii (codes "rio9") refl refl, omega arith),
  (ascii (codes "rio9") refl refl, omega arith),
  (ascii (codes "rio9") refl refl, omega arith),
  rw (length_of_stat name node) (omega (arith, is.short)),
)

pub all_fit : {E : Type 0} (r : Result Stat E) (name : List ℕ) (node : Node) → IsName name
    → IfOk r (λ s. stat_of s ≡ stat_named name node) → IfOk r (λ s. FitsStat (stat_of s) × (length (stat_bytes (stat_of s)) < 2 ^ 16))
all_fit (Ok s) name node is same =
    subst (λ (t : model.Stat). FitsStat t × (length (stat_bytes t) < 2 ^ 16)) (sym same)
    (named_fits name node is, omega (arith, length_of_stat name node, is.short, sized_len (stat_body (stat_named name node))))
all_fit (Err e) name node is same = tt
