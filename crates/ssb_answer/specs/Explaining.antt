-- The plan of a text's query over tables, as text.
-- Source: own.
use Rattle.std.specs.Prelude.{List}
use Rattle.ssb_catalog.specs.Shapes.{TableShape}
use Rattle.ssb_cells.specs.Tables.{Columns}
use Rattle.ssb_explain.specs.Analyzed.{IsAnalyzed}
use Rattle.ssb_explain.specs.Explained.{IsExplained}
use Rattle.ssb_load.specs.Files.{Bytes}
use Rattle.ssb_query.specs.declared.query.QueryParts.{QueryParts}
use Rattle.ssb_reply.specs.Reply.{Asks}

-- what is told of a text: that of a plan which is right for its query over these tables
pub record Explains (c : List TableShape) (tables : List Columns) (text plan : Bytes) : Type 0 where
  pub query : QueryParts
  pub asks : Asks c text query
  pub explained : IsExplained c (record { query = query; tables = tables }) plan

-- that, and the rows that each of its steps leaves
pub record Analyzes (c : List TableShape) (tables : List Columns) (text plan : Bytes) : Type 0 where
  pub query : QueryParts
  pub asks : Asks c text query
  pub analyzed : IsAnalyzed c (record { query = query; tables = tables }) plan
