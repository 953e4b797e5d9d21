-- The whole is as deep as each part.
use Rattle.std.proofs.Common.{◌≡◌, ℕ, suc, ◌≤◌, true, List, [], ◌∷◌, Option, Some, None, option_map, arith}
use Rattle.cql_parse.specs.declared.frame.Frame.{Frame}
use Rattle.cql_parse.specs.declared.frame.Frame.TheVariants.{Bracket, Prefix}
use Rattle.cql_parse.specs.Tree.{Tree, clause, assigned, depth}
use Rattle.cql_parse.specs.Classes.{is_open}
use Rattle.cql_parse.specs.Lexemes.{Lexeme}
use Rattle.cql_parse.specs.Grammar.{Left, Due, operand, after, join, Reads, plain, bracket, prefix, boolean, sort, done}
use Rattle.cql_parse.specs.Nesting.{nesting}
use Rattle.cql_parse.specs.ParserState.{left_of, Ends, Completes}

-- the levels of what is read so far
pub due_depth : Due → ℕ
due_depth (operand None) = 0
due_depth (operand (Some left)) = depth left.tree
due_depth (after tree) = depth tree

-- a query behind what stands left of it is as deep as both
pub join_right : (left : Option Left) (t : Tree) → depth t ≤ depth (join left t)
join_right None t = omega arith
join_right (Some left) t = omega arith

join_left : (left : Option Left) (t : Tree) → due_depth (operand left) ≤ depth (join left t)
unfolding due_depth
join_left None t = omega arith
join_left (Some left) t = omega arith

pub reads_deep : {due : Due} {ts end : List Lexeme} {q : Tree} → Reads due ts q end → due_depth due ≤ depth q
unfolding due_depth
reads_deep (plain {left = left} head text c r) = omega (arith, reads_deep r, join_left left (clause head text))
reads_deep (bracket {left = left} {inner = inner} x y o i c r) = omega (arith, reads_deep r, join_left left inner)
reads_deep (prefix {left = left} {q = q} name uri c r) = join_left left (assigned name uri q)
reads_deep (boolean x ms b m r) = reads_deep r
reads_deep (sort x keys s k e) = omega arith
reads_deep (done e) = omega arith

pub ends_deep : (frames : List Frame) (q : Tree) (rest : List Lexeme) (t : Tree) → Ends frames q rest t → depth q ≤ depth t
ends_deep [] q rest t e = rw e.1 (omega arith)
ends_deep (Bracket left ∷ frames) q rest t (y, more, outer, end, e1, c, r, e) =
    let here : depth (join (option_map left_of left) q) ≤ depth outer = unfold due_depth in reads_deep r in
    omega (arith, here, join_right (option_map left_of left) q, ends_deep frames outer end t e)
ends_deep (Prefix left name uri ∷ frames) q rest t e =
    omega (arith, join_right (option_map left_of left) (assigned name uri q), ends_deep frames (join (option_map left_of left) (assigned name uri q)) rest t e)

pub completes_deep : (tree : Tree) (frames : List Frame) (ts : List Lexeme) (t : Tree) → Completes (after tree) frames ts t → depth tree ≤ depth t
completes_deep tree frames ts t (q, end, r, e) =
    let here : depth tree ≤ depth q = unfold due_depth in reads_deep r in
    omega (arith, here, ends_deep frames q end t e)

-- at least the `n` brackets from before are open at once
pub nesting_least : (n : ℕ) (ts : List Lexeme) → n ≤ nesting n ts
nesting_least n [] = omega arith
nesting_least n (x ∷ ts) = omega arith

pub nesting_open : (n : ℕ) (x : Lexeme) (ts : List Lexeme) → is_open x.class ≡ true → nesting n (x ∷ ts) ≡ nesting (suc n) ts
nesting_open n x ts o = rw o (omega (arith, nesting_least (suc n) ts))
