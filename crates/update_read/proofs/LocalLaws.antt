-- Local parts, piece by piece.
use Rattle.std.proofs.Common.{◌≡◌, ◌≢◌, ◌-◌, ◌<◌, ◌≤◌, ℕ, List, [], ◌∷◌, ◌++◌, length, take, drop, refl, sym, ap, subst, ◌∙◌, append_assoc, arith, inl, inr}
use Rattle.std.specs.Prelude.{MatchOption, Option, Some, None, All, ◌⊎◌, IsTrue}
use Rattle.std.specs.Char.{encode_utf8, is_ascii_hexdigit}
use Rattle.std.proofs.lemmas.List.{length-append, take-append-drop, append-nil}
use Rattle.std.proofs.lemmas.List.Elements.{All-nil, All-cons, All-append}
use Rattle.std.proofs.lemmas.Str.{encode_same, encode_ascii}
use Rattle.dl_text.specs.Going.{Goes, stop, go}
use Rattle.dl_text.specs.Escapes.{joined, is_local_escape}
use Rattle.dl_text.proofs.GoingLaws.{goes_push, goes_append}
use Rattle.dl_runs.specs.declared.runs.Class.{Class}
use Rattle.dl_runs.specs.declared.runs.Class.TheVariants as classes
use Rattle.dl_runs.specs.Classes.{IsOf, BeginsWith}
use Rattle.dl_runs.proofs.CharLaws.{shorter, cut_front}
use Rattle.update_read.specs.Cutting.{LocalPiece, character, percent, escaped, BeginsLocal, IsLocalRun, IsLocal}
use Rattle.update_read.specs.LocalRuns.{IsMarked, EndsBehind}
use Rattle.update_read.specs.LocalRuns as marked
use Rattle.update_read.proofs.TextLaws.{heads}

tails : (a b : ℕ) (xs ys : List ℕ) → a ∷ xs ≡ b ∷ ys → xs ≡ ys
tails a b xs ys e = cc

not_nil : (b : ℕ) (xs : List ℕ) → ¬ ([] ≡ b ∷ xs)
not_nil b xs e = cc

-- % and what stands behind it
pub percent_answer : {X : Type 0} → (here bs : List ℕ) (b : ℕ) (o : Option X) (g : X → List ℕ) → here ≡ b ∷ bs → b ≡ 37
    → MatchOption o ((d e : ℕ) (m : List ℕ) → IsTrue (is_ascii_hexdigit d) → IsTrue (is_ascii_hexdigit e) → ¬ (bs ≡ d ∷ e ∷ m))
    (λ x. (d e : ℕ) × IsTrue (is_ascii_hexdigit d) × IsTrue (is_ascii_hexdigit e) × (bs ≡ d ∷ e ∷ g x))
    → MatchOption o ((m : List ℕ) → ¬ IsMarked here m) (λ x. IsMarked here (g x))
percent_answer here bs b None g is at n = never
  where
    never : (m : List ℕ) → ¬ IsMarked here m
    never m (marked.percent d e h k f) = n d e m h k (tails b 37 bs (d ∷ e ∷ m) (sym is ∙ f))
    never m (marked.escaped e h f) = let same = heads b 92 bs (e ∷ m) (sym is ∙ f) in omega (arith, at, same)
percent_answer here bs b (Some x) g is at (d, e, h, k, f) = marked.percent d e h k (is ∙ ap (λ (z : ℕ). z ∷ bs) at ∙ ap (λ (zs : List ℕ). 37 ∷ zs) f)

-- a backslash and what stands behind it
pub escaped_answer : {X : Type 0} → (here bs : List ℕ) (b : ℕ) (o : Option X) (g : X → List ℕ) → here ≡ b ∷ bs → b ≡ 92
    → MatchOption o ((e : ℕ) (m : List ℕ) → IsTrue (is_local_escape e) → ¬ (bs ≡ e ∷ m)) (λ x. (e : ℕ) × IsTrue (is_local_escape e) × (bs ≡ e ∷ g x))
    → MatchOption o ((m : List ℕ) → ¬ IsMarked here m) (λ x. IsMarked here (g x))
escaped_answer here bs b None g is at n = never
  where
    never : (m : List ℕ) → ¬ IsMarked here m
    never m (marked.percent d e h k f) = let same = heads b 37 bs (d ∷ e ∷ m) (sym is ∙ f) in omega (arith, at, same)
    never m (marked.escaped e h f) = n e m h (tails b 92 bs (e ∷ m) (sym is ∙ f))
escaped_answer here bs b (Some x) g is at (e, h, f) = marked.escaped e h (is ∙ ap (λ (z : ℕ). z ∷ bs) at ∙ ap (λ (zs : List ℕ). 92 ∷ zs) f)

module _ (class : Class) where
  piece_of : (here m : List ℕ) → IsMarked here m → (out : List ℕ) × LocalPiece class here out m
  piece_of here m (marked.percent d e h k f) = (37 ∷ d ∷ e ∷ [], percent d e h k f refl)
  piece_of here m (marked.escaped e h f) = (92 ∷ e ∷ [], escaped e h f refl)

  no_piece : (here out m : List ℕ) → ¬ BeginsWith class here → ((n : List ℕ) → ¬ IsMarked here n) → ¬ LocalPiece class here out m
  no_piece here out m n k (character c i e f) = n (c, m, e, i)
  no_piece here out m n k (percent d e h j f g) = k m (marked.percent d e h j f)
  no_piece here out m n k (escaped e h f g) = k m (marked.escaped e h f)

  -- where no character of the class stands, what is marked is all there is
  pub marked_answer : {X : Type 0} → (here : List ℕ) (o : Option X) (g : X → List ℕ) → ¬ BeginsWith class here
      → MatchOption o ((m : List ℕ) → ¬ IsMarked here m) (λ x. IsMarked here (g x))
      → MatchOption o ((out m : List ℕ) → ¬ LocalPiece class here out m) (λ x. (out : List ℕ) × LocalPiece class here out (g x))
  marked_answer here None g n k = λ out m. no_piece here out m n k
  marked_answer here (Some x) g n k = piece_of here (g x) k

  pub piece_is : (s m o : List ℕ) → LocalPiece class s o m → s ≡ o ++ m
  piece_is s m o (character c i e f) = e ∙ ap (λ (zs : List ℕ). zs ++ m) (sym f)
  piece_is s m o (percent d e h k f g) = f ∙ ap (λ (zs : List ℕ). zs ++ m) (sym g)
  piece_is s m o (escaped e h f g) = f ∙ ap (λ (zs : List ℕ). zs ++ m) (sym g)

  pub piece_shorter : (s m o : List ℕ) → LocalPiece class s o m → length m < length s
  piece_shorter s m o (character c i e f) = shorter s m c e
  piece_shorter s m o (percent d e h k f g) = omega (arith, ap length f)
  piece_shorter s m o (escaped e h f g) = omega (arith, ap length f)

  pub pieces_are : (s e : List ℕ) (ps : List (List ℕ)) → Goes (LocalPiece class) s ps e → s ≡ joined ps ++ e
  pieces_are s e ps (stop v) = refl
  pieces_are s e ps (go v w x o qs k r) = piece_is v w o k ∙ ap (λ (zs : List ℕ). o ++ zs) (pieces_are w x qs r) ∙ sym (append_assoc o (joined qs) e)

-- a dot in front is a piece of its own
dot_piece : (here more m out : List ℕ) → here ≡ 46 ∷ more → LocalPiece classes.Local here out m → (out ≡ 46 ∷ []) × (m ≡ more)
dot_piece here more m out e (character c i f g) =
    let same = encode_same c 46 m more (sym f ∙ e ∙ ap (λ (zs : List ℕ). zs ++ more) (sym (encode_ascii 46 (omega arith)))) in
    (g ∙ ap encode_utf8 same.0 ∙ encode_ascii 46 (omega arith), same.1)
dot_piece here more m out e (percent d x h k f g) = absurd (omega (arith, heads 46 37 more (d ∷ x ∷ m) (sym e ∙ f)))
dot_piece here more m out e (escaped x h f g) = absurd (omega (arith, heads 46 92 more (x ∷ m) (sym e ∙ f)))

-- so far pieces of a local part, and dots since the last that is none
pub record IsLocalTo (raw end here : List ℕ) : Type 0 where
  pub pieces : List (List ℕ)
  pub tail : List (List ℕ)
  pub dots : List ℕ
  pub goes : Goes (LocalPiece classes.Local) raw pieces end
  pub on : Goes (LocalPiece classes.Local) end tail here
  pub dotted : end ≡ dots ++ here
  pub each_dot : All (λ c. c ≡ 46) dots
  pub last : (front : List (List ℕ)) → pieces ≢ front ++ (46 ∷ []) ∷ []

pub local_none : (raw : List ℕ) → IsLocalTo raw raw raw
local_none raw = record {
  pieces = [];
  tail = [];
  dots = [];
  goes = stop raw;
  on = stop raw;
  dotted = refl;
  each_dot = All-nil (λ c. c ≡ 46);
  last = λ front e. none front e;
}
  where
    none : (front : List (List ℕ)) → ¬ ([] ≡ front ++ (46 ∷ []) ∷ [])
    none [] e = cc
    none (x ∷ front) e = cc

last_is : (xs ys : List (List ℕ)) (x y : List ℕ) → xs ++ x ∷ [] ≡ ys ++ y ∷ [] → x ≡ y
last_is [] [] x y e = cc
last_is [] (b ∷ []) x y e = cc
last_is [] (b ∷ d ∷ ys) x y e = cc
last_is (a ∷ []) [] x y e = cc
last_is (a ∷ d ∷ xs) [] x y e = cc
last_is (a ∷ xs) (b ∷ ys) x y e = last_is xs ys x y (cc)

pub local_more : (raw end here behind out next : List ℕ) → IsLocalTo raw end here → LocalPiece classes.Local here out behind → EndsBehind here behind end next → IsLocalTo raw next behind
local_more raw end here behind out next l p (inl (more, e, n)) =
    let dot = dot_piece here more behind out e p in record {
      pieces = l.pieces;
      tail = l.tail ++ out ∷ [];
      dots = l.dots ++ 46 ∷ [];
      goes = subst (λ (z : List ℕ). Goes (LocalPiece classes.Local) raw l.pieces z) (sym n) l.goes;
      on = subst (λ (z : List ℕ). Goes (LocalPiece classes.Local) z (l.tail ++ out ∷ []) behind) (sym n) (goes_push (LocalPiece classes.Local) end here behind l.tail out l.on p);
      dotted = n ∙ l.dotted ∙ ap (λ (z : List ℕ). l.dots ++ z) (e ∙ ap (λ (z : List ℕ). 46 ∷ z) (sym dot.1)) ∙ sym (append_assoc l.dots (46 ∷ []) behind);
      each_dot = All-append (λ c. c ≡ 46) l.dots (46 ∷ []) l.each_dot (All-cons (λ c. c ≡ 46) 46 [] refl (All-nil (λ c. c ≡ 46)));
      last = l.last;
    }
local_more raw end here behind out next l p (inr (d, n)) =
    let all : List (List ℕ) = (l.pieces ++ l.tail) ++ out ∷ [] in
    let whole = goes_push (LocalPiece classes.Local) raw here behind (l.pieces ++ l.tail) out (goes_append (LocalPiece classes.Local) raw end here l.pieces l.tail l.goes l.on) p in record {
      pieces = all;
      tail = [];
      dots = [];
      goes = subst (λ (z : List ℕ). Goes (LocalPiece classes.Local) raw all z) (sym n) whole;
      on = subst (λ (z : List ℕ). Goes (LocalPiece classes.Local) z [] behind) (sym n) (stop behind);
      dotted = n;
      each_dot = All-nil (λ c. c ≡ 46);
      last = λ front e. d behind (piece_is classes.Local here behind out p ∙ ap (λ (z : List ℕ). z ++ behind) (last_is (l.pieces ++ l.tail) front out (46 ∷ []) e));
    }

pub local_within : (raw end here : List ℕ) → IsLocalTo raw end here → length end ≤ length raw
local_within raw end here l = omega (arith, ap length (pieces_are classes.Local raw end l.pieces l.goes), length-append (joined l.pieces) end)

pub local_all : (raw end here : List ℕ) → BeginsLocal raw → IsLocalTo raw end here → ((out m : List ℕ) → ¬ LocalPiece classes.Local here out m)
    → IsLocal raw (take (length raw - length end) raw) (drop (length raw - length end) raw)
local_all raw end here b l n =
    let cut = cut_front raw (joined l.pieces) end (pieces_are classes.Local raw end l.pieces l.goes) in
    inr (
      b,
      record {
        pieces = l.pieces;
        dots = l.dots;
        behind = here;
        goes = subst (λ (z : List ℕ). Goes (LocalPiece classes.Local) raw l.pieces z) cut.1 l.goes;
        is = sym cut.0;
        last = l.last;
        dotted = sym cut.1 ∙ l.dotted;
        each_dot = l.each_dot;
        ends = n;
      },
    )
