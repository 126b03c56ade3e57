-- How a verdict stands for the language's, and what the rows of nodes and findings hold.
use Rattle.std.specs.Prelude.{ℕ, ◌+◌, ◌*◌, List, get_or}
use Rattle.language.specs.Sentences.{node_width}
use Rattle.language.specs.Numbers as numbers
use Rattle.language.specs.Findings.{diag_width}
use Rattle.rows.specs.declared.layout.DiagnosticRow.{DiagnosticRow}
use Rattle.rows.specs.declared.verdict.Verdict.{Verdict}

abbrev pub verdict_as : numbers.Verdict → Verdict
verdict_as v = record { number = v.number; kind = v.kind; line = v.line; column = v.column; character = v.character }

-- word j of row i of the node table
abbrev pub node_word : List ℕ → ℕ → ℕ → ℕ
node_word ws i j = get_or ws (node_width * i + j) 0

-- row i of the table of findings
abbrev pub row_diagnostic : List ℕ → ℕ → DiagnosticRow
row_diagnostic ws i =
    record {
      line = get_or ws (diag_width * i) 0;
      column = get_or ws (diag_width * i + 1) 0;
      severity = get_or ws (diag_width * i + 2) 0;
      kind = get_or ws (diag_width * i + 3) 0;
      text = get_or ws (diag_width * i + 4) 0;
      start = get_or ws (diag_width * i + 5) 0;
      end = get_or ws (diag_width * i + 6) 0;
      ty = get_or ws (diag_width * i + 7) 0;
      first = get_or ws (diag_width * i + 8) 0;
      second = get_or ws (diag_width * i + 9) 0;
      third = get_or ws (diag_width * i + 10) 0;
      statement = get_or ws (diag_width * i + 11) 0;
    }
