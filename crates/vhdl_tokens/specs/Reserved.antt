-- The reserved words (IEEE Std 1076-2008, 15.10). Upper and lower case are the same.
use Rattle.std.specs.Prelude.{ℕ, Option, Some, None, List, [], ◌∷◌, map, if◌then◌else◌, codes}
use Rattle.std.specs.Char.{to_ascii_lowercase}
use Rattle.std.specs.Str.{bytes_eq}
use Rattle.vhdl_tokens.specs.declared.reserved.Reserved.{Reserved}
use Rattle.vhdl_tokens.specs.declared.reserved.Reserved.TheVariants as reserved
use Rattle.vhdl_tokens.specs.declared.reserved.ReservedWord.{ReservedWord}

-- the word of a table that a name is
abbrev pub word_in : List (List ℕ × Reserved) → List ℕ → Option Reserved
word_in [] name = None
word_in (line ∷ lines) name =
    if bytes_eq (map to_ascii_lowercase name) (map to_ascii_lowercase line.0) then Some line.1 else word_in lines name

-- a line of the table of the code
abbrev pub line_of : ReservedWord → List ℕ × Reserved
line_of line = (line.spelling.now, line.word)

-- the reserved words
abbrev pub reserved_words : List (List ℕ × Reserved)
reserved_words =
    (codes "abs", reserved.Abs) ∷ (codes "access", reserved.Access) ∷
    (codes "after", reserved.After) ∷ (codes "alias", reserved.Alias) ∷
    (codes "all", reserved.All) ∷ (codes "and", reserved.And) ∷
    (codes "architecture", reserved.Architecture) ∷ (codes "array", reserved.Array) ∷
    (codes "assert", reserved.Assert) ∷ (codes "assume", reserved.Assume) ∷
    (codes "assume_guarantee", reserved.AssumeGuarantee) ∷
    (codes "attribute", reserved.Attribute) ∷ (codes "begin", reserved.Begin) ∷
    (codes "block", reserved.Block) ∷ (codes "body", reserved.Body) ∷
    (codes "buffer", reserved.Buffer) ∷ (codes "bus", reserved.Bus) ∷
    (codes "case", reserved.Case) ∷ (codes "component", reserved.Component) ∷
    (codes "configuration", reserved.Configuration) ∷ (codes "constant", reserved.Constant) ∷
    (codes "context", reserved.Context) ∷ (codes "cover", reserved.Cover) ∷
    (codes "default", reserved.Default) ∷ (codes "disconnect", reserved.Disconnect) ∷
    (codes "downto", reserved.Downto) ∷ (codes "else", reserved.Else) ∷
    (codes "elsif", reserved.Elsif) ∷ (codes "end", reserved.End) ∷
    (codes "entity", reserved.Entity) ∷ (codes "exit", reserved.Exit) ∷
    (codes "fairness", reserved.Fairness) ∷ (codes "file", reserved.File) ∷
    (codes "for", reserved.For) ∷ (codes "force", reserved.Force) ∷
    (codes "function", reserved.Function) ∷ (codes "generate", reserved.Generate) ∷
    (codes "generic", reserved.Generic) ∷ (codes "group", reserved.Group) ∷
    (codes "guarded", reserved.Guarded) ∷ (codes "if", reserved.If) ∷
    (codes "impure", reserved.Impure) ∷ (codes "in", reserved.In) ∷
    (codes "inertial", reserved.Inertial) ∷ (codes "inout", reserved.Inout) ∷
    (codes "is", reserved.Is) ∷ (codes "label", reserved.Label) ∷
    (codes "library", reserved.Library) ∷ (codes "linkage", reserved.Linkage) ∷
    (codes "literal", reserved.Literal) ∷ (codes "loop", reserved.Loop) ∷
    (codes "map", reserved.Map) ∷ (codes "mod", reserved.Mod) ∷ (codes "nand", reserved.Nand) ∷
    (codes "new", reserved.New) ∷ (codes "next", reserved.Next) ∷ (codes "nor", reserved.Nor) ∷
    (codes "not", reserved.Not) ∷ (codes "null", reserved.Null) ∷ (codes "of", reserved.Of) ∷
    (codes "on", reserved.On) ∷ (codes "open", reserved.Open) ∷ (codes "or", reserved.Or) ∷
    (codes "others", reserved.Others) ∷ (codes "out", reserved.Out) ∷
    (codes "package", reserved.Package) ∷ (codes "parameter", reserved.Parameter) ∷
    (codes "port", reserved.Port) ∷ (codes "postponed", reserved.Postponed) ∷
    (codes "procedure", reserved.Procedure) ∷ (codes "process", reserved.Process) ∷
    (codes "property", reserved.Property) ∷ (codes "protected", reserved.Protected) ∷
    (codes "pure", reserved.Pure) ∷ (codes "range", reserved.Range) ∷
    (codes "record", reserved.Record) ∷ (codes "register", reserved.Register) ∷
    (codes "reject", reserved.Reject) ∷ (codes "release", reserved.Release) ∷
    (codes "rem", reserved.Rem) ∷ (codes "report", reserved.Report) ∷
    (codes "restrict", reserved.Restrict) ∷
    (codes "restrict_guarantee", reserved.RestrictGuarantee) ∷
    (codes "return", reserved.Return) ∷ (codes "rol", reserved.Rol) ∷
    (codes "ror", reserved.Ror) ∷ (codes "select", reserved.Select) ∷
    (codes "sequence", reserved.Sequence) ∷ (codes "severity", reserved.Severity) ∷
    (codes "shared", reserved.Shared) ∷ (codes "signal", reserved.Signal) ∷
    (codes "sla", reserved.Sla) ∷ (codes "sll", reserved.Sll) ∷ (codes "sra", reserved.Sra) ∷
    (codes "srl", reserved.Srl) ∷ (codes "strong", reserved.Strong) ∷
    (codes "subtype", reserved.Subtype) ∷ (codes "then", reserved.Then) ∷
    (codes "to", reserved.To) ∷ (codes "transport", reserved.Transport) ∷
    (codes "type", reserved.Type_) ∷ (codes "unaffected", reserved.Unaffected) ∷
    (codes "units", reserved.Units) ∷ (codes "until", reserved.Until) ∷
    (codes "use", reserved.Use) ∷ (codes "variable", reserved.Variable) ∷
    (codes "vmode", reserved.Vmode) ∷ (codes "vprop", reserved.Vprop) ∷
    (codes "vunit", reserved.Vunit) ∷ (codes "wait", reserved.Wait) ∷
    (codes "when", reserved.When) ∷ (codes "while", reserved.While) ∷
    (codes "with", reserved.With) ∷ (codes "xnor", reserved.Xnor) ∷ (codes "xor", reserved.Xor) ∷ []

-- the reserved word that a name is
abbrev pub reserved_word : List ℕ → Option Reserved
reserved_word name = word_in reserved_words name
